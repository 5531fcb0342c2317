-- How long a written file is: its body and at most 253 bytes, in lines of at most 80 (01, "At most 1,048,576 bytes"; 02, T-04 and T-06). Assumes nothing.
use Rattle.std.specs.Prelude.{◌≡◌, Bool, true, ℕ, suc, ◌+◌, ◌≤◌, ◌<◌, ltb, length}
use Rattle.std.proofs.Math.Path.{refl}
use Rattle.std.proofs.Common.{sym, ap, ◌∙◌, subst, ltb-true}
use mathlib.Core.List.{List, [], ◌∷◌, ◌++◌, append_assoc}
use native.Mathlib.Omega.{arith}
use Rattle.terms.specs.Logic.{both, both_true}
use Rattle.label_spec.specs.Names.{TITLE, END}
use Rattle.table_spec.specs.Groups.{plain_text}
use Rattle.table_spec.specs.Frame.{longest_line}
use Rattle.table_write_law.proofs.EightyBytes.{over, ends, byte, Ordinary, Lined, onward}
use Rattle.file_spec.specs.Texts.{XFACTOR, YFACTOR, FIRSTX, LASTX, NPOINTS, FIRSTY, XYDATA, LIST}
use Rattle.file_write_spec.specs.declared.Scales.{Scales}
use Rattle.file_write_spec.specs.Records.{crlf, entry_text, entries_text, line}
use Rattle.file_write_spec.specs.Decimals.{decimal_text}
use Rattle.file_write_spec.specs.File.{table, needed, end_line, file_text}
use Rattle.file_write_law.specs.Settled.{OneLine, count_line, decimal_line}
use Rattle.file_write_law.specs.Lengths.{TitleFits, ScalesFit, decimal_most, factor_most, count_most}

-- ---- its lines

-- a text in lines, and then another
lined_then : {e : ℕ} {a b : List ℕ} → Lined e a → Lined 0 b → Lined e (a ++ b)
lined_then over y = y
lined_then (ends l x) y = ends l (lined_then x y)
lined_then (byte h x) y = byte h (lined_then x y)

ordinary : (b : ℕ) → 13 < b → Ordinary b
ordinary b h = (λ e. omega arith, λ e. omega arith)

-- a name of capital letters
capitals : List ℕ → Bool
capitals [] = true
capitals (b ∷ w) = both (ltb 64 b) (capitals w)

capitals_line : (w : List ℕ) → capitals w ≡ true → OneLine w
unfolding capitals
capitals_line [] h = tt
capitals_line (b ∷ w) h =
    let k = both_true (ltb 64 b) (capitals w) h in let l = ltb-true 64 b k.0 in (ordinary b (omega arith), capitals_line w k.1)

-- a label and the rest of its line, and then lines
label_lined : (w t rest : List ℕ) → capitals w ≡ true → OneLine t → length w + length t + 3 ≤ longest_line → Lined 0 rest → Lined 0 (35 ∷ 35 ∷ (w ++ 61 ∷ (t ++ 13 ∷ 10 ∷ rest)))
label_lined w t rest h k l x =
    let f : suc (2 + length w) + length t ≤ longest_line = omega arith in
    byte (ordinary 35 (omega arith)) (byte (ordinary 35 (omega arith))
    (onward 2 w (capitals_line w h) (byte (ordinary 61 (omega arith)) (onward (suc (2 + length w)) t k (ends f x)))))

entry_lined : (w t rest : List ℕ) → capitals w ≡ true → OneLine t → length w + length t + 3 ≤ longest_line → Lined 0 rest → Lined 0 (entry_text (line w t) ++ rest)
unfolding entry_text
entry_lined w t rest h k l x =
    let e = append_assoc w (61 ∷ (t ++ crlf)) rest ∙ ap (λ (s : List ℕ). w ++ 61 ∷ s) (append_assoc t crlf rest) in
    subst (λ (s : List ℕ). Lined 0 (35 ∷ 35 ∷ s)) (sym e) (label_lined w t rest h k l x)

module _ (title : List ℕ) (c : Scales) (n : ℕ) (body : List ℕ) (t : TitleFits title) (d : ScalesFit c) (few : n ≤ 65536) (x : Lined 0 body) where
  end_lined : Lined 0 (entries_text (end_line ∷ []))
  unfolding entries_text capitals END
  end_lined = entry_lined END [] [] refl tt (omega arith) over

  table_lined : Lined 0 (entries_text (table body ∷ end_line ∷ []))
  unfolding entries_text entry_text capitals
  table_lined = label_lined XYDATA LIST (body ++ entries_text (end_line ∷ [])) refl list_line (omega arith) (lined_then x end_lined)
    where
      list_line : OneLine LIST
      list_line = (
        ordinary 40 (omega arith),
        (
          ordinary 88 (omega arith),
          (
            ordinary 43 (omega arith),
            (
              ordinary 43 (omega arith),
              (
                ordinary 40 (omega arith),
                (
                  ordinary 89 (omega arith),
                  (ordinary 46 (omega arith), (ordinary 46 (omega arith), (ordinary 89 (omega arith), (ordinary 41 (omega arith), (ordinary 41 (omega arith), tt))))),
                ),
              ),
            ),
          ),
        ),
      )

  -- the six records of one line after TITLE's, and then the table
  needed_lined : Lined 0 (entries_text (needed c n body ++ end_line ∷ []))
  unfolding entries_text capitals
  needed_lined =
      let l = table_lined in
      let fy = entry_lined FIRSTY (decimal_text c.firsty) _ refl (decimal_line c.firsty) (omega (arith, decimal_most c.firsty d.firsty)) l in
      let np = entry_lined NPOINTS (plain_text n) _ refl (count_line n) (omega (arith, count_most title c n body t d few)) fy in
      let lx = entry_lined LASTX (decimal_text c.lastx) _ refl (decimal_line c.lastx) (omega (arith, decimal_most c.lastx d.lastx)) np in
      let fx = entry_lined FIRSTX (decimal_text c.firstx) _ refl (decimal_line c.firstx) (omega (arith, decimal_most c.firstx d.firstx)) lx in
      let yf = entry_lined YFACTOR (decimal_text c.yfactor) _ refl (decimal_line c.yfactor) (omega (arith, factor_most c.yfactor d.yfactor)) fx in
      entry_lined XFACTOR (decimal_text c.xfactor) _ refl (decimal_line c.xfactor) (omega (arith, factor_most c.xfactor d.xfactor)) yf

  pub file_lined : Lined 0 (file_text title c n body)
  unfolding file_text entries_text capitals TITLE
  file_lined = let short = t.short in entry_lined TITLE title (entries_text (needed c n body ++ end_line ∷ [])) refl t.one (omega arith) needed_lined
