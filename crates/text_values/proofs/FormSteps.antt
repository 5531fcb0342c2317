-- The marks of a form make its values (02, T-02). No place of the code is named here. Assumes nothing.
use mathlib.Core.Path.{◌≡◌, refl, ap, ◌∙◌}
use mathlib.Core.Bool.{true}
use mathlib.Core.List.{List, [], ◌∷◌, ◌++◌}
use Prim.Native.Nat.{ℕ, suc, ◌+◌, ◌-◌, ◌≤◌, ◌<◌}
use native.Mathlib.Omega.{arith}
use native.Mathlib.Nat.{not-suc-le-zero}
use lib.Dec.{lit≤}
use lib.ListN.{length, get_or}
use borrow.Author.Tests.{eq-eqb, ne_eqb}
use Rattle.table_spec.specs.declared.Style.{Style}
use Rattle.table_spec.specs.declared.Style.TheVariants.{Affn, Pac, Sqz, Difdup}
use Rattle.table_spec.specs.Values.{Own, Gap}
use Rattle.table_spec.specs.Numerals.{top, low, numeral}
use Rattle.table_spec.specs.Groups.{in_full, sqz_text, plain_text, pac_text, affn_text, token_text}
use Rattle.table_spec.specs.Writing.{lines_of}
use Rattle.table_write_law.specs.Tokens.{form_cases}
use Rattle.table_write_law.specs.Plain.{value_text, values, plain_lines}
use Rattle.table_write_law.specs.Lengths.{value_most}
use Rattle.frame.specs.declared.Frame.{Frame}
use Rattle.frame.specs.Legal.{Sound}
use Rattle.table_spec.specs.Frame.{nearest}
use Rattle.table_write_law.proofs.Abscissas.{nearest_range}
use Rattle.table_write_law.specs.Heads.{head_length}
use Rattle.table_text.specs.Pieces.{number, head_of}
use Rattle.text_marks.specs.declared.Marks.{Marks}
use Rattle.text_marks.specs.Shows.{spelled, marks_of, Based, shown}
use Rattle.text_value_lines.specs.Lines.{whole}
use Rattle.text_marks.proofs.ShowSteps.{shown_most}

pub marks_based : (st : Style) → Based (marks_of st)
unfolding marks_of
marks_based Affn = record { plus_least = lit≤ tt; plus = lit≤ tt; minus_least = lit≤ tt; minus = lit≤ tt }
marks_based Pac = record { plus_least = lit≤ tt; plus = lit≤ tt; minus_least = lit≤ tt; minus = lit≤ tt }
marks_based Sqz = record { plus_least = lit≤ tt; plus = lit≤ tt; minus_least = lit≤ tt; minus = lit≤ tt }
marks_based Difdup = record { plus_least = lit≤ tt; plus = lit≤ tt; minus_least = lit≤ tt; minus = lit≤ tt }

module _ (u : ℕ) where
  missing : (st : Style) → u ≡ 0 → token_text st Gap u ≡ shown (marks_of st) u
  unfolding token_text shown spelled marks_of number top low
  missing Affn e = rw (eq-eqb u 0 e) refl
  missing Pac e = rw (eq-eqb u 0 e) refl
  missing Sqz e = rw (eq-eqb u 0 e) refl
  missing Difdup e = rw (eq-eqb u 0 e) refl

  given : (st : Style) → (u ≡ 0 → ⊥) → token_text st Own u ≡ shown (marks_of st) u
  unfolding token_text shown spelled marks_of number affn_text pac_text sqz_text plain_text numeral
  given Affn e = rw (ne_eqb u 0 e) refl
  given Pac e = rw (ne_eqb u 0 e) refl
  given Sqz e = rw (ne_eqb u 0 e) refl
  given Difdup e = rw (ne_eqb u 0 e) refl

-- the text that the marks of a form make of an ordinate is the one that it has in full
pub marks_show : (st : Style) (u : ℕ) → value_text st u ≡ shown (marks_of st) u
unfolding value_text
marks_show st u =
    form_cases (λ r. token_text st r u ≡ shown (marks_of st) u) 0 u (λ e. missing u st e) (λ h _. given u st (λ e. omega arith)) (λ _ h _. absurd (omega arith)) (λ _ h _. absurd (omega arith))

values_same : (f g : ℕ → List ℕ) → ((u : ℕ) → f u ≡ g u) → (hd : ℕ → List ℕ) (ys : List ℕ) (i col : ℕ) → values f hd ys i col ≡ values g hd ys i col
unfolding values
values_same f g e hd [] i col = refl
values_same f g e hd (y ∷ ys) i col =
    rw (e y, values_same f g e hd ys (suc i) (col + length (g y)), values_same f g e hd ys (suc i) (length (hd i) + length (g y))) refl

-- the whole text
form_text : (st : Style) → in_full st ≡ true → (hd : ℕ → List ℕ) (ys : List ℕ) → 0 < length ys → length (hd 0) ≤ 15
    → lines_of st hd ys ≡ hd 0 ++ values (shown (marks_of st)) hd ys 0 (length (hd 0))
form_text st full hd [] h l = absurd (not-suc-le-zero h)
form_text st full hd (y ∷ ys) h l =
    plain_lines st full hd y ys (omega (arith, value_most st y))
    ∙ ap (λ (t : List ℕ). hd 0 ++ t) (values_same (value_text st) (shown (marks_of st)) (marks_show st) hd (y ∷ ys) 0 (length (hd 0)))

-- a head is short
pub short_head : (fr : Frame) → Sound fr → (i : ℕ) → i < fr.points → length (head_of fr i) ≤ 15
unfolding head_of
short_head fr s i l =
    let low_first = s.low_first in let low_last = s.low_last in let first = s.first in let last = s.last in
    let z = nearest_range fr.first fr.last fr.points i 1 19999999999 l (omega arith) (omega arith) (omega arith) (omega arith) in
    omega (arith, head_length (nearest fr.first fr.last fr.points i) (omega (arith, z.0)) (omega (arith, z.1)))

-- a value fits on a new line
pub fits_new : (m : Marks) (fr : Frame) → Sound fr → (ys : List ℕ) → length ys ≡ fr.points → (k : ℕ) → k < length ys → length (head_of fr k) + length (shown m (get_or ys k 0)) ≤ 80
fits_new m fr s ys e k l = omega (arith, short_head fr s k (omega arith), shown_most m (get_or ys k 0))

-- the text of a form in a frame
pub form_whole : (st : Style) → in_full st ≡ true → (fr : Frame) → Sound fr → (ys : List ℕ) → length ys ≡ fr.points → lines_of st (head_of fr) ys ≡ whole (marks_of st) fr ys
form_whole st full fr s ys e = let some = s.some in form_text st full (head_of fr) ys (omega arith) (short_head fr s 0 (omega arith))
