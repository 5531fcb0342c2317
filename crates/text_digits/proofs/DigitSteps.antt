-- What the counting and storing of digits needs. No place of the code is named here. Assumes nothing.
use mathlib.Core.Path.{◌≡◌, refl, sym, ap, ◌∙◌}
use mathlib.Core.List.{List, []}
use Prim.Native.Nat.{ℕ, zero, suc, ◌+◌, ◌-◌, ◌*◌, ◌/◌, ◌%◌, ◌^◌, ◌≤◌, ◌<◌}
use native.Mathlib.Omega.{arith}
use native.Mathlib.Nat.{mod-lt, div-div-eq-div-mul}
use lib.Arith.{digits_div, digits_mod, mod-mul}
use mathlib.Core.Bool.{true, false}
use lib.Dec.{eqb, lit<}
use lib.ListN.{length, set, get_or, length-set}
use lib.Seq.{sets, set-set}
use borrow.Author.Tests.{eqb-true, eqb-false}
use Rattle.terms.specs.Logic.{pick, by_case}
use Rattle.table_spec.specs.Numerals.{top, low}
use Rattle.table_text.specs.Digits.{further, Storing, Digits}
use Rattle.table_text.specs.Pieces.{Put, number}
use Rattle.table_text.proofs.NumberSteps.{number_put}
use Rattle.text_digits.specs.Pairs.{pairs, is_tens, is_ones}
use Rattle.table_text.specs.DigitLaws.{count_end, store_more, store_end, digits_more, digits_end}

-- two digits of a number
two_of : (w : ℕ) → w % 100 ≡ w / 10 % 10 * 10 + w % 10
two_of w = mod-mul w {m = 10} {c = 10} (lit< tt) (lit< tt)

last_of : (w : ℕ) → w % 100 % 10 ≡ w % 10
last_of w = ap (λ (x : ℕ). x % 10) (two_of w) ∙ digits_mod (w / 10 % 10) (mod-lt w (lit< tt))

first_of : (w : ℕ) → w % 100 / 10 ≡ w / 10 % 10
first_of w = ap (λ (x : ℕ). x / 10) (two_of w) ∙ digits_div (w / 10 % 10) (mod-lt w (lit< tt))

hundredth : (w : ℕ) → w / 100 ≡ w / 10 / 10
hundredth w = sym (div-div-eq-div-mul w 10 10)

-- n digits follow the first of a number from 10^n to below 10^(n+1)
pub counted : (v n : ℕ) → n ≤ 9 → (0 < n → 10 ^ n ≤ v) → v < 10 ^ suc n → (n ≡ further 9 v) × (n ≤ 9)
counted v n few least h = count_end v n (10 ^ suc n) (record { few = few; is = refl; least = least }) h

-- where at most one further digit is left, what is left is below a hundred
left_small : {v w : ℕ} (j : ℕ) → j < 2 → Storing v w j → w < 100
left_small {v} {w} zero h d = omega (arith, (store_end v w zero d (omega arith)).1)
left_small {v} {w} (suc j) h d = omega (arith, (store_end v (w / 10) (suc j - 1) (store_more v w (suc j) d (omega arith)) (omega arith)).1)

module _ (v n at : ℕ) {o₀ o : List ℕ} {w j : ℕ} (d : Digits v n at o₀ o w j) where
  one_more : (o' : List ℕ) → 0 < j → o' ≡ set o (at + (j - 1)) (48 + w % 10) → Digits v n at o₀ o' (w / 10) (j - 1)
  one_more o' h e = digits_more v n at o' d h (ap length e ∙ length-set o (at + (j - 1)) (48 + w % 10)) e

module _ (v n at : ℕ) {o₀ o : List ℕ} {w j : ℕ} (d : Digits v n at o₀ o w j) where
  -- two digits more
  pub pair_more : {a b : ℕ} → 2 ≤ j → a ≡ 48 + w % 100 % 10 → b ≡ 48 + w % 100 / 10 → Digits v n at o₀ (set (set o (at + (j - 1)) a) (at + (j - 2)) b) (w / 100) (j - 2)
  pair_more {a} {b} h e f =
      let k : j - 2 ≡ (j - 1) - 1 = omega arith in
      let x = e ∙ ap (λ (t : ℕ). 48 + t) (last_of w) in
      let y = f ∙ ap (λ (t : ℕ). 48 + t) (first_of w) in
      let o₁ = set o (at + (j - 1)) a in
      rw (hundredth w, k) (one_more v n at (one_more v n at d o₁ (omega arith) (ap (set o (at + (j - 1))) x)) (set o₁ (at + ((j - 1) - 1)) b) (omega arith)
      (ap (set o₁ (at + ((j - 1) - 1))) y))

  -- no pair is left
  pub pairs_end : j < 2 → j % 2 ≡ n % 2 → Digits v n at o₀ o w (n % 2) × (w < 100)
  pairs_end h e =
      let k : j ≡ n % 2 = omega arith in
      let small = left_small j (omega arith) d.still in
      (rw k at d, small)

  -- the last one
  last_one : (o' : List ℕ) → n ≡ further 9 v → j ≡ 1 → o' ≡ set o at (48 + w % 10) → (w / 10 ≡ top 9 v) × (w / 10 < 10) × (o' ≡ sets o₀ at (low 9 v []))
  last_one o' h one e =
      let k : at + (j - 1) ≡ at = omega arith in
      digits_end v n at h (one_more v n at d o' (omega arith) (rw k e)) (omega arith)

-- a number whose pairs are stored, and then what is left of it
module _ {o o₁ o₂ : List ℕ} (at base v n w : ℕ) (e : n ≡ further 9 v) (d : Digits v n (at + 1) o o₁ w (n % 2)) where
  pub number_even : n % 2 ≡ 0 → o₂ ≡ set o₁ at (base + w) → Put o at o₂ (at + 1 + n) (number base v)
  number_even h f = let z = digits_end v n (at + 1) e d (omega arith) in (number_put at v n (base + w) e z.2 f base w refl z.0).0

  pub number_odd : {a b : ℕ} → (n % 2 ≡ 0 → ⊥) → 48 ≤ base → a ≡ 48 + w / 10 → b ≡ 48 + w % 10 → o₂ ≡ set (set o₁ (at + 1) b) at (base - 48 + a)
      → Put o at o₂ (at + 1 + n) (number base v)
  number_odd {a} {b} h l x y f =
      let one : n % 2 ≡ 1 = omega (arith, h) in
      let z = last_one v n (at + 1) d (set o₁ (at + 1) b) e one (ap (set o₁ (at + 1)) y) in
      (number_put at v n (base - 48 + a) e z.2 f base (w / 10) (omega arith) z.0).0

  -- both at once: the second byte is stored where it belongs, or where the first is stored over it
  pub number_either : {b l : ℕ} → 48 ≤ base → b ≡ 48 + w % 10 → l ≡ 48 + pick (eqb (n % 2) 0) (w % 10) (w / 10) → o₂ ≡ set (set o₁ (at + n % 2) b) at (base - 48 + l)
      → Put o at o₂ (at + 1 + n) (number base v)
  number_either {b} {l} m y p f = by_case (λ t. eqb (n % 2) 0 ≡ t → Put o at o₂ (at + 1 + n) (number base v)) (eqb (n % 2) 0) (λ _ c. even c) (λ _ c. odd c) refl
    where
      even : eqb (n % 2) 0 ≡ true → Put o at o₂ (at + 1 + n) (number base v)
      even c =
          let h = eqb-true (n % 2) 0 c in
          let z = digits_end v n (at + 1) e d (omega arith) in
          let q : l ≡ 48 + w % 10 = p ∙ rw c refl in
          let k : at + n % 2 ≡ at = omega arith in
          let r : base - 48 + l ≡ base + w = omega (arith, z.1) in
          number_even h (f ∙ rw (k, r, set-set o₁ at b (base + w)) refl)

      odd : eqb (n % 2) 0 ≡ false → Put o at o₂ (at + 1 + n) (number base v)
      odd c =
          let h = eqb-false (n % 2) 0 c in
          let q : l ≡ 48 + w / 10 = p ∙ rw c refl in
          let k : at + n % 2 ≡ at + 1 = omega (arith, h) in
          number_odd h m q y (f ∙ rw k refl)

-- the place of the first digit's byte in the table
pub is_lead : (odd w : ℕ) → odd ≤ 1 → w < 100 → get_or pairs (2 * w + 1 - odd) 0 ≡ 48 + pick (eqb odd 0) (w % 10) (w / 10)
is_lead zero w l h = let e : 2 * w + 1 - 0 ≡ 2 * w + 1 = omega arith in rw e (is_ones w h)
is_lead (suc zero) w l h = let e : 2 * w + 1 - 1 ≡ 2 * w = omega arith in rw e (is_tens w h)
is_lead (suc (suc odd)) w l h = absurd (omega arith)

pub lead_small : (odd w : ℕ) → w < 100 → 48 + pick (eqb odd 0) (w % 10) (w / 10) ≤ 57
lead_small odd w h = by_case (λ t. 48 + pick t (w % 10) (w / 10) ≤ 57) (eqb odd 0) (λ _. omega arith) (λ _. omega arith)
