-- The file that the code lays is the one that 02, T-04 defines, and the numbers that it takes are the ones given. No place of the code is named here. Assumes nothing.
use mathlib.Core.Path.{◌≡◌, refl, sym, ap, ◌∙◌}
use mathlib.Core.Bool.{Bool, true, false}
use mathlib.Core.List.{List, [], ◌∷◌, ◌++◌, append_assoc, append-nil}
use Prim.Native.Nat.{ℕ, suc, ◌+◌, ◌-◌, ◌<◌}
use native.Mathlib.Omega.{arith}
use lib.Dec.{ltb}
use lib.IntN.{ℤ, pos, negsuc, nat_abs}
use borrow.Author.Tests.{ltb-true, le-leb, lt-leb}
use Rattle.terms.specs.Logic.{pick, both, both_true, zero_one}
use Rattle.table_spec.specs.Frame.{lift}
use Rattle.table_spec.specs.Groups.{plain_text}
use Rattle.table_spec.specs.Writing.{declined}
use Rattle.label_spec.specs.Names.{TITLE}
use Rattle.decimal_spec.specs.Number.{bound, origin}
use Rattle.file_spec.specs.declared.Numbers.{Numbers}
use Rattle.file_spec.specs.Figures.{exceeding, with_decimal}
use Rattle.file_spec.specs.Texts.{XFACTOR, YFACTOR, FIRSTX, LASTX, NPOINTS, FIRSTY, XYDATA, LIST}
use Rattle.file_write_spec.specs.declared.GivenDecimal.{GivenDecimal}
use Rattle.file_write_spec.specs.declared.Scales.{Scales}
use Rattle.file_write_spec.specs.Records.{Entry, crlf, entry_text, entries_text, line}
use Rattle.file_write_spec.specs.Decimals.{mantissa_text, exponent_text, decimal_text, negative, decimal_of, decimal_taken, factor_taken}
use Rattle.file_write_spec.specs.File.{title_legal, scales_legal, numbers, end_line, file_text, by_frame, write_file}
use Rattle.file_write_law.specs.Lengths.{ScalesFit, scales_fit}
use Rattle.file_given.specs.Taking.{given_of, from_firstx, figures_for}
use Rattle.file_pieces.specs.Decimals.{power_text, text_of, Writable}
use Rattle.file_plan.specs.Stages.{laid_out, body_of, Scaled, in_frame, from_numbers}
use Rattle.std.specs.Prelude.{Some, None, Result, Ok, Err}

-- ---- one decimal

power_is : (e : ℤ) → nat_abs e < 100 → power_text (lift origin e) ≡ exponent_text e
unfolding power_text exponent_text
power_is (pos x) h = let z : 200 + x - 200 ≡ x = omega arith in rw (le-leb 200 (200 + x) (omega arith), z) refl
power_is (negsuc x) h = let z : 200 - (200 - suc x) ≡ suc x = omega arith in rw (lt-leb 200 (200 - suc x) (omega arith), z) refl

power_range : (e : ℤ) → nat_abs e < 100 → (100 < lift origin e) × (lift origin e < 300)
power_range (pos x) h = (omega arith, omega arith)
power_range (negsuc x) h = (omega arith, omega arith)

sized : (m : ℤ) (u : List ℕ) → pick (negative m) (45 ∷ plain_text (nat_abs m)) (plain_text (nat_abs m)) ++ u ≡ mantissa_text m ++ u
unfolding mantissa_text
sized (pos v) u = refl
sized (negsuc v) u = refl

module _ (d : GivenDecimal) where
  limits : decimal_taken d ≡ true → (nat_abs d.mantissa < bound) × (nat_abs d.exponent < 100)
  unfolding decimal_taken
  limits t =
      let h = both_true (ltb (nat_abs d.mantissa) bound) (ltb (nat_abs d.exponent) 100) t in
      (ltb-true (nat_abs d.mantissa) bound h.0, ltb-true (nat_abs d.exponent) 100 h.1)

  text_is : decimal_taken d ≡ true → text_of (decimal_of d) ≡ decimal_text d
  unfolding text_of decimal_text
  text_is t = rw (power_is d.exponent (limits t).1) (sized d.mantissa (exponent_text d.exponent))

  writable : decimal_taken d ≡ true → Writable (decimal_of d)
  writable t = let r = power_range d.exponent (limits t).1 in record { mantissa = (limits t).0; low = r.0; high = r.1 }

  factor_parts : factor_taken d ≡ true → (decimal_taken d ≡ true) × (0 < nat_abs d.mantissa)
  unfolding factor_taken
  factor_parts t =
      let a = both_true (decimal_taken d) (both (pick (negative d.mantissa) false true) (ltb 0 (nat_abs d.mantissa))) t in
      let b = both_true (pick (negative d.mantissa) false true) (ltb 0 (nat_abs d.mantissa)) a.1 in
      (a.0, ltb-true 0 (nat_abs d.mantissa) b.1)

  -- a factor, if it is taken
  factor_given : exceeding (given_of d) ≡ pick (factor_taken d) (Some (decimal_of d)) None
  unfolding exceeding given_of factor_taken
  factor_given = go (decimal_taken d)
    where
      go : (t : Bool) → exceeding (pick t (Some (decimal_of d)) None)
          ≡ pick (both t (both (pick (negative d.mantissa) false true) (ltb 0 (nat_abs d.mantissa)))) (Some (decimal_of d)) None
      go true = refl
      go false = refl

-- ---- 26

module _ (c : Scales) (n : ℕ) where
  five : (a b x y z : Bool) → with_decimal 0 (pick a (Some (numbers c n).xfactor) None) (λ xf. with_decimal 0 (pick b (Some (numbers c n).yfactor) None) (λ yf.
      with_decimal 0 (pick x (Some (numbers c n).firstx) None) (λ fx. with_decimal 0 (pick y (Some (numbers c n).lastx) None) (λ lx.
      with_decimal 0 (pick z (Some (numbers c n).firsty) None) (λ fy.
      Ok (record { xfactor = xf; yfactor = yf; firstx = fx; lastx = lx; npoints = n; firsty = fy }))))))
      ≡ pick (both a (both b (both x (both y z)))) (Ok (numbers c n)) (Err 0)
  five false b x y z = refl
  five true false x y z = refl
  five true true false y z = refl
  five true true true false z = refl
  five true true true true false = refl
  five true true true true true = refl

  figures_are : figures_for c n ≡ pick (scales_legal c) (Ok (numbers c n)) (Err 0)
  unfolding figures_for from_firstx given_of scales_legal
  figures_are =
      rw (factor_given c.xfactor, factor_given c.yfactor)
      (five (factor_taken c.xfactor) (factor_taken c.yfactor) (decimal_taken c.firstx) (decimal_taken c.lastx) (decimal_taken c.firsty))

  pub figures_wrong : {a : ℕ} → Err a ≡ figures_for c n → scales_legal c ≡ false
  figures_wrong {a} e = go (scales_legal c) (e ∙ figures_are)
    where
      go : (t : Bool) → Err a ≡ pick t (Ok (numbers c n)) (Err 0) → t ≡ false
      go true h = zero_one cc
      go false h = refl

  pub figures_all : {m : Numbers} → Ok m ≡ figures_for c n → (scales_legal c ≡ true) × (m ≡ numbers c n)
  figures_all {m} e = go (scales_legal c) (e ∙ figures_are)
    where
      go : (t : Bool) → ◌≡◌ {A = Result Numbers ℕ} (Ok m) (pick t (Ok (numbers c n)) (Err 0)) → (t ≡ true) × (m ≡ numbers c n)
      go true h = (refl, cc)
      go false h = zero_one cc

  module _ (h : scales_legal c ≡ true) where
    abbrev fit : ScalesFit c
    fit = scales_fit c h

    pub all_scaled : Scaled (numbers c n)
    all_scaled =
        let x = factor_parts c.xfactor fit.xfactor in let y = factor_parts c.yfactor fit.yfactor in
        record {
          xfactor = writable c.xfactor x.0;
          yfactor = writable c.yfactor y.0;
          firstx = writable c.firstx fit.firstx;
          lastx = writable c.lastx fit.lastx;
          firsty = writable c.firsty fit.firsty;
          some_x = x.1;
          some_y = y.1;
        }

-- ---- the file

-- records, then a last one whose text goes on with the body
goes_on : (rs : List Entry) (w t body : List ℕ) (es : List Entry)
    → entries_text (rs ++ record { name = w; text = t ++ body } ∷ es) ≡ entries_text (rs ++ record { name = w; text = t } ∷ []) ++ (body ++ entries_text es)
unfolding entries_text entry_text
goes_on [] w t body es =
    ap (λ (l : List ℕ). 35 ∷ 35 ∷ l)
    (append_assoc w (61 ∷ (t ++ body)) (entries_text es) ∙ ap (λ (l : List ℕ). w ++ 61 ∷ l) (append_assoc t body (entries_text es))
    ∙ sym (append_assoc w (61 ∷ t) (body ++ entries_text es)) ∙ ap (λ (l : List ℕ). l ++ (body ++ entries_text es)) (sym (append-nil (w ++ 61 ∷ t))))
goes_on (r ∷ rs) w t body es =
    ap (λ (l : List ℕ). entry_text r ++ l) (goes_on rs w t body es) ∙ sym (append_assoc (entry_text r) (entries_text (rs ++ record { name = w; text = t } ∷ [])) (body ++ entries_text es))

module _ (title : List ℕ) (c : Scales) (n : ℕ) (body : List ℕ) where
  -- the seven before XYDATA
  abbrev seven : List Entry
  seven =
      line TITLE title
      ∷ line XFACTOR (decimal_text c.xfactor)
      ∷ line YFACTOR (decimal_text c.yfactor)
      ∷ line FIRSTX (decimal_text c.firstx)
      ∷ line LASTX (decimal_text c.lastx)
      ∷ line NPOINTS (plain_text n)
      ∷ line FIRSTY (decimal_text c.firsty)
      ∷ []

  file_parts : file_text title c n body ≡ entries_text (seven ++ line XYDATA LIST ∷ []) ++ (body ++ entries_text (end_line ∷ []))
  unfolding file_text
  file_parts = goes_on seven XYDATA (LIST ++ crlf) body (end_line ∷ [])

  file_is : scales_legal c ≡ true → laid_out title (numbers c n) body ≡ file_text title c n body
  file_is h =
      let d = scales_fit c h in
      rw (
        file_parts,
        text_is c.xfactor (factor_parts c.xfactor d.xfactor).0,
        text_is c.yfactor (factor_parts c.yfactor d.yfactor).0,
        text_is c.firstx d.firstx,
        text_is c.lastx d.lastx,
        text_is c.firsty d.firsty,
      ) refl

-- ---- the outcome, stage by stage

module _ (title : List ℕ) (n : ℕ) (c : Scales) (es : List ℤ) (space : ℕ) where
  pub title_declined : title_legal title ≡ false → write_file title n c es space ≡ declined 37
  unfolding write_file
  title_declined h = rw h refl

  module _ (a : title_legal title ≡ true) where
    pub scales_declined : scales_legal c ≡ false → write_file title n c es space ≡ declined 26
    unfolding write_file
    scales_declined h = rw (a, h) refl

    pub numbers_next : scales_legal c ≡ true → write_file title n c es space ≡ from_numbers title (numbers c n) es space
    unfolding write_file from_numbers in_frame by_frame
    numbers_next h = rw (a, h, file_is title c n (body_of _ _ n es) h) refl
