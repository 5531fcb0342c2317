-- What the showing of a value in full needs. No place of the code is named here. Assumes nothing.
use mathlib.Core.Path.{◌≡◌, refl, ap, ◌∙◌}
use mathlib.Core.Bool.{Bool, true, false}
use mathlib.Core.List.{List, [], ◌∷◌, ◌++◌}
use Prim.Native.Nat.{ℕ, suc, ◌+◌, ◌-◌, ◌≤◌, ◌<◌}
use native.Mathlib.Omega.{arith}
use native.Mathlib.Nat.{add-zero}
use native.Mathlib.Numerals.{add-one}
use lib.Dec.{leb, eqb}
use lib.ListN.{length, set, length-append}
use lib.Seq.{sets, set-set}
use borrow.Author.Tests.{eq-eqb, ne_eqb, le-leb, lt-leb}
use Rattle.terms.specs.Logic.{pick, by_case}
use Rattle.table_spec.specs.Frame.{zero_ordinate}
use Rattle.table_spec.specs.Numerals.{top, low}
use Rattle.table_text.specs.Digits.{further}
use Rattle.table_text.specs.DigitLaws.{further_le}
use Rattle.table_text.proofs.NumberSteps.{number_length}
use Rattle.table_text.specs.Pieces.{number}
use Rattle.text_marks.specs.declared.Marks.{Marks}
use Rattle.text_marks.specs.Shows.{mark, spelled, shown}

mark_length : (q : Bool) (b : ℕ) → length (mark q b) ≡ pick q 1 0
mark_length true b = refl
mark_length false b = refl

mark_most : (q : Bool) → pick q 1 0 ≤ 1
mark_most true = omega arith
mark_most false = omega arith

-- the bytes of a value
spelled_length : (space signed : Bool) (base size : ℕ) → length (spelled space signed base size) ≡ pick space 1 0 + pick signed 1 0 + 1 + further 9 size
unfolding spelled
spelled_length space signed base size =
    omega (
      arith,
      length-append (mark space 32 ++ mark signed 45) (number base size),
      length-append (mark space 32) (mark signed 45),
      mark_length space 32,
      mark_length signed 45,
      number_length base size,
    )

spelled_most : (space signed : Bool) (base size : ℕ) → length (spelled space signed base size) ≤ 12
spelled_most space signed base size = omega (arith, spelled_length space signed base size, mark_most space, mark_most signed, further_le 9 size)

-- the bytes of the parts of a value
pub parts_length : (space signed : Bool) (base size : ℕ) {a b : ℕ} → a ≡ pick space 1 0 → b ≡ pick signed 1 0 → a + b + (1 + further 9 size) ≡ length (spelled space signed base size)
parts_length space signed base size e f = omega (arith, spelled_length space signed base size)

-- ---- marks that are stored whether they are to be or not

set_over : (l : List ℕ) (i a b : ℕ) (vs : List ℕ) → sets (set l i a) i (b ∷ vs) ≡ sets l i (b ∷ vs)
set_over l i a b vs = ap (λ (x : List ℕ). sets x (suc i) vs) (set-set l i a b)

module _ (o : List ℕ) (at b : ℕ) (vs : List ℕ) where
  marks_over : (space signed : Bool) → sets (set (set o at 32) (at + pick space 1 0) 45) (at + pick space 1 0 + pick signed 1 0) (b ∷ vs)
      ≡ sets o at (mark space 32 ++ mark signed 45 ++ (b ∷ vs))
  marks_over true true = rw (add-one at, add-one (suc at)) refl
  marks_over true false = rw (add-one at, add-zero (suc at)) (set_over (set o at 32) (suc at) 45 b vs)
  marks_over false true = rw (add-zero at, add-one at) (ap (λ (x : List ℕ). sets x (suc at) (b ∷ vs)) (set-set o at 32 45))
  marks_over false false = rw (add-zero at, add-zero at) (set_over (set o at 32) at 45 b vs ∙ set_over o at 32 b vs)

-- a number after its marks is a value
pub number_over : (o : List ℕ) {o' : List ℕ} (at : ℕ) (space signed : Bool) (base size : ℕ) {a b : ℕ} → a ≡ pick space 1 0 → b ≡ pick signed 1 0
    → o' ≡ sets (set (set o at 32) (at + a) 45) (at + a + b) (number base size) → o' ≡ sets o at (spelled space signed base size)
unfolding number spelled
number_over o at space signed base size e f k = (rw (e, f) at k) ∙ marks_over o at (base + top 9 size) (low 9 size []) space signed

-- ---- the value of an ordinate

module _ (m : Marks) (u : ℕ) where
  pub shown_missing : u ≡ 0 → shown m u ≡ spelled m.gap false 63 0
  unfolding shown
  shown_missing e = rw (eq-eqb u 0 e) refl

  pub shown_up : 2147483648 ≤ u → shown m u ≡ spelled m.up false m.plus (u - 2147483648)
  unfolding shown
  shown_up h = rw (ne_eqb u 0 (λ e. omega arith), le-leb 2147483648 u h) refl

  pub shown_down : (u ≡ 0 → ⊥) → u < 2147483648 → shown m u ≡ spelled m.down m.signed m.minus (2147483648 - u)
  unfolding shown
  shown_down e h = rw (ne_eqb u 0 e, lt-leb 2147483648 u h) refl

  pub shown_most : length (shown m u) ≤ 12
  unfolding shown
  shown_most =
      by_case (λ q. length (pick q (spelled m.gap false 63 0)
      (pick (leb zero_ordinate u) (spelled m.up false m.plus (u - zero_ordinate)) (spelled m.down m.signed m.minus (zero_ordinate - u)))) ≤ 12) (eqb u 0)
      (λ _. spelled_most m.gap false 63 0)
      (λ _. by_case (λ q. length (pick q (spelled m.up false m.plus (u - zero_ordinate)) (spelled m.down m.signed m.minus (zero_ordinate - u))) ≤ 12) (leb zero_ordinate u)
      (λ _. spelled_most m.up false m.plus (u - zero_ordinate)) (λ _. spelled_most m.down m.signed m.minus (zero_ordinate - u)))

  -- ---- its bytes

  pub width_missing : {a : ℕ} → u ≡ 0 → a ≡ pick m.gap 1 0 → (a + 1 ≡ length (shown m u)) × (a + 1 ≤ 12)
  width_missing e f =
      let z = ap length (shown_missing e) in
      let w = spelled_length m.gap false 63 0 in
      let n : further 9 0 ≡ 0 = unfold further in refl in
      (omega (arith, z, w, n), omega (arith, mark_most m.gap))

  pub width_up : {a n : ℕ} → 2147483648 ≤ u → a ≡ pick m.up 1 0 → n ≡ 1 + further 9 (u - 2147483648) → (a + n ≡ length (shown m u)) × (a + n ≤ 12)
  width_up h e f =
      let z = ap length (shown_up h) in
      let w = spelled_length m.up false m.plus (u - 2147483648) in
      (omega (arith, z, w), omega (arith, mark_most m.up, further_le 9 (u - 2147483648)))

  pub width_down : {a b n : ℕ} → (u ≡ 0 → ⊥) → u < 2147483648 → a ≡ pick m.down 1 0 → b ≡ pick m.signed 1 0 → n ≡ 1 + further 9 (2147483648 - u)
      → (a + b + n ≡ length (shown m u)) × (a + b + n ≤ 12)
  width_down k h e f g =
      let z = ap length (shown_down k h) in
      let w = spelled_length m.down m.signed m.minus (2147483648 - u) in
      (omega (arith, z, w), omega (arith, mark_most m.down, mark_most m.signed, further_le 9 (2147483648 - u)))
