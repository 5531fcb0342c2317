-- Where the texts of written records are found, and that each is what was written (01, "The text of a record"; 02, T-04). Assumes nothing.
use Rattle.label_spec.specs.Parts.{span_of}
use Rattle.std.specs.Prelude.{◌≡◌, refl, List, [], ◌∷◌, ◌++◌, ℕ, zero, suc, ◌+◌, ◌-◌, ◌≤◌, ◌<◌, length, drop, Option, Some, None}
use Rattle.std.proofs.Common.{sym, ap, ◌∙◌, append_assoc, arith, length-append, drop-drop, lt-ltb, le-ltb}
use Rattle.std.proofs.Math.Seq.{take-append_seam, drop-append_seam}
use Rattle.terms.specs.Logic.{pick}
use Rattle.label_spec.specs.Names.{sames}
use Rattle.label_spec.specs.Records.{mark_of, record_of}
use Rattle.label_spec.specs.declared.Span.{Span}
use Rattle.file_spec.specs.Texts.{text_in}
use Rattle.file_write_spec.specs.Records.{Entry, entry_text, entries_text}
use Rattle.file_write_law.specs.Labels.{size, inset, labels}

-- ---- places

-- the place after records that stand from i on
abbrev pub after : List Entry → ℕ → ℕ
after [] i = i
after (r ∷ rs) i = after rs (i + size r)

pub after_le : (rs : List Entry) (i : ℕ) → i ≤ after rs i
after_le [] i = omega arith
after_le (r ∷ rs) i = omega (arith, after_le rs (i + size r))

-- the text of a record that stands at i
abbrev pub span : Entry → ℕ → Span
span r i = record { from = i + inset r; to = i + size r }

-- the text of the k-th of some records from i on
abbrev pub nth : ℕ → List Entry → ℕ → Span
nth k [] i = record { from = i; to = i }
nth zero (r ∷ rs) i = span r i
nth (suc k) (r ∷ rs) i = nth k rs (i + size r)

-- the first of the records with that name, from i on
abbrev pub record_span : List ℕ → List Entry → ℕ → Option Span
record_span w [] i = None
record_span w (r ∷ rs) i = pick (sames r.name w) (Some (span_of (i + inset r) (i + size r))) (record_span w rs (i + size r))

-- is what `record_of` finds before a last record
mark_labels : (len : ℕ) (rs : List Entry) (e : Entry) (i : ℕ) → mark_of len (labels (rs ++ e ∷ []) i) ≡ i
unfolding mark_of
mark_labels len [] e i = refl
mark_labels len (r ∷ rs) e i = refl

pub record_labels : (len : ℕ) (w : List ℕ) (rs : List Entry) (e : Entry) (i : ℕ) → record_of len (after rs i) w (labels (rs ++ e ∷ []) i) ≡ record_span w rs i
unfolding record_of
record_labels len w [] e i = rw (le-ltb i i (omega arith)) refl
record_labels len w (r ∷ rs) e i =
    let k : i < after rs (i + size r) = omega (arith, after_le rs (i + size r)) in
    let a : i + 2 + length r.name + 1 ≡ i + inset r = omega arith in
    rw (lt-ltb i (after rs (i + size r)) k, mark_labels len rs e (i + size r), record_labels len w rs e (i + size r), a) refl

-- ---- texts

pub entry_length : (r : Entry) → length (entry_text r) ≡ size r
unfolding entry_text
entry_length r = omega (arith, length-append r.name (61 ∷ r.text))

pub entries_length : (rs : List Entry) (i : ℕ) → i + length (entries_text rs) ≡ after rs i
unfolding entries_text
entries_length [] i = omega arith
entries_length (r ∷ rs) i = omega (arith, length-append (entry_text r) (entries_text rs), entry_length r, entries_length rs (i + size r))

at_more : (s : List ℕ) (i n : ℕ) (t u : List ℕ) → drop i s ≡ t → drop n t ≡ u → drop (i + n) s ≡ u
at_more s i n t u e f = sym (drop-drop n i s) ∙ ap (λ (l : List ℕ). drop n l) e ∙ f

-- a record stands at i: its text,
entry_inset : (r : Entry) (rest : List ℕ) → drop (inset r) (entry_text r ++ rest) ≡ r.text ++ rest
unfolding entry_text
entry_inset r rest =
    let e : inset r ≡ suc (suc (length r.name + 1)) = omega arith in
    rw (e, append_assoc r.name (61 ∷ r.text) rest) (sym (drop-drop 1 (length r.name) (r.name ++ 61 ∷ (r.text ++ rest)))
    ∙ ap (λ (l : List ℕ). drop 1 l) (drop-append_seam r.name (61 ∷ (r.text ++ rest))))

module _ (s : List ℕ) (i : ℕ) (r : Entry) (rest : List ℕ) (e : drop i s ≡ entry_text r ++ rest) where
  pub text_at : drop (i + inset r) s ≡ r.text ++ rest
  text_at = at_more s i (inset r) (entry_text r ++ rest) (r.text ++ rest) e (entry_inset r rest)

  pub text_is : text_in s (span r i) ≡ r.text
  text_is =
      let n : i + size r - (i + inset r) ≡ length r.text = omega arith in
      rw (n, text_at) (take-append_seam r.text rest)

  -- and what follows it
  pub rest_at : drop (i + size r) s ≡ rest
  rest_at = at_more s i (size r) (entry_text r ++ rest) rest e (rw (← entry_length r) (drop-append_seam (entry_text r) rest))

-- so for records in a row
abbrev pub Texts : List ℕ → List Entry → ℕ → Type 0
Texts s [] i = Unit {0}
Texts s (r ∷ rs) i = (text_in s (span r i) ≡ r.text) × Texts s rs (i + size r)

pub texts_are : (s : List ℕ) (rs : List Entry) (i : ℕ) → drop i s ≡ entries_text rs → Texts s rs i
unfolding entries_text
texts_are s [] i e = tt
texts_are s (r ∷ rs) i e = (text_is s i r (entries_text rs) e, texts_are s rs (i + size r) (rest_at s i r (entries_text rs) e))
