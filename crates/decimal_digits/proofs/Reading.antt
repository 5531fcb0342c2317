-- What the reading of digits rests on: no place of the code is named here. Assumes nothing.
use mathlib.Core.Path.{◌≡◌, refl, sym, ap, ◌∙◌}
use mathlib.Core.Bool.{false}
use mathlib.Core.List.{List}
use Prim.Native.Nat.{ℕ, ◌+◌, ◌-◌, ◌*◌, ◌^◌, ◌<◌, ◌≤◌}
use native.Mathlib.Omega.{arith}
use native.Mathlib.Nat.{mul-le-mul_right}
use lib.Dec.{ltb}
use lib.Pow.{pow-add}
use lib.ListN.{length, get_or, drop}
use borrow.Author.Tests.{lt-ltb, le-ltb, eq-eqb, ne_eqb, ltb-true}
use Rattle.terms.specs.Logic.{pick, by_case}
use Rattle.alphabet_spec.specs.Digits.{long, run, digits}
use Rattle.alphabet.specs.Ran.{Ran, ran_is}
use Rattle.decimal_spec.specs.Number.{bound, mantissa_of, behind_point, before_point, mantissa_at, count_of, count_at}
use Rattle.decimal_digits.specs.Found.{MantissaIn, MantissaFound, CountFound}
use Rattle.std.specs.Prelude.{Option, Some, None}
use Rattle.decimal_spec.specs.declared.Mantissa.{Mantissa}
use Rattle.decimal_spec.specs.Parts.{mantissa_with, count_with}

-- ---- a run of digits that was read
module _ (s : List ℕ) (i v most w j e : ℕ) (x : Ran s i v most w j e) where
  pub ran_long : e < 16 → digits (drop i s) most v 0 ≡ long
  ran_long l = ran_is x ∙ rw (lt-ltb e 16 l) refl

  pub ran_run : 16 ≤ e → digits (drop i s) most v 0 ≡ run w (j - i)
  ran_run l = ran_is x ∙ rw (le-ltb e 16 l) refl

-- the place after a run, from its start
pub reached : (i j : ℕ) → i ≤ j → i + (j - i) ≡ j
reached i j l = omega arith

-- after the first digits there is room for the others
pub room : (s : List ℕ) (i v j e : ℕ) → Ran s i 0 12 v j e → (v + 1) * 10 ^ (12 - (j - i)) ≤ 10000000000000000000
room s i v j e x =
    let a = x.low in
    let b = x.few in
    let c : v + 1 ≤ 10 ^ (j - i) = omega (arith, x.below) in
    let d = mul-le-mul_right (10 ^ (12 - (j - i))) c in
    let f : j - i + (12 - (j - i)) ≡ 12 = omega arith in
    let g : 10 ^ (j - i) * 10 ^ (12 - (j - i)) ≡ 10 ^ 12 = sym (pow-add 10 (j - i) (12 - (j - i))) ∙ ap (λ (k : ℕ). 10 ^ k) f in
    omega arith

-- ---- the digits of a number
module _ (v n f j : ℕ) where
  pub no_digits : n ≡ 0 → None ≡ mantissa_of v n f j
  unfolding mantissa_of
  no_digits h = rw h refl

  pub too_large : (n ≡ 0 → ⊥) → bound ≤ v → None ≡ mantissa_of v n f j
  unfolding mantissa_of
  too_large h l = let p : 0 < n = omega arith in rw (lt-ltb 0 n p, le-ltb v bound l) refl

  pub digits_are : (n ≡ 0 → ⊥) → v < bound → Some (mantissa_with v f j) ≡ mantissa_of v n f j
  unfolding mantissa_of
  digits_are h l = let p : 0 < n = omega arith in rw (lt-ltb 0 n p, lt-ltb v bound l) refl

  mantissa_in : (len : ℕ) → f ≤ 12 → j ≤ len → MantissaIn len (mantissa_of v n f j)
  unfolding mantissa_of
  mantissa_in len a b =
      by_case (λ t. MantissaIn len (pick (pick t (ltb v bound) false) (Some (mantissa_with v f j)) None)) (ltb 0 n)
      (λ _. by_case (λ t. ltb v bound ≡ t → MantissaIn len (pick t (Some (mantissa_with v f j)) None)) (ltb v bound) (λ _ e. (ltb-true v bound e, a, b)) (λ _ e. tt) refl)
      (λ _. tt)

module _ (s : List ℕ) (i v j e : ℕ) (x : Ran s i 0 12 v j e) where
  pub whole_long : e < 16 → MantissaFound s i None
  unfolding mantissa_at before_point
  whole_long l = record { says = rw (ran_long s i 0 12 v j e x l) refl; good = tt }

  module _ (l : 16 ≤ e) where
    pub no_point : (get_or s j 0 ≡ 46 → ⊥) → (r : Option Mantissa) → r ≡ mantissa_of v (j - i) 0 j → MantissaFound s i r
    unfolding mantissa_at before_point
    no_point n r g = record {
      says = g ∙ rw (ran_run s i 0 12 v j e x l, reached i j x.low, ne_eqb (get_or s j 0) 46 n) refl;
      good = rw g (mantissa_in v (j - i) 0 j (length s) (omega arith) x.high);
    }

    module _ (p : get_or s j 0 ≡ 46) (w k a : ℕ) (y : Ran s (j + 1) v (12 - (j - i)) w k a) where
      pub behind_long : a < 16 → MantissaFound s i None
      unfolding mantissa_at before_point behind_point
      behind_long h = record {
        says = rw (ran_run s i 0 12 v j e x l, reached i j x.low, eq-eqb (get_or s j 0) 46 p, ran_long s (j + 1) v (12 - (j - i)) w k a y h) refl;
        good = tt;
      }

      pub behind_run : 16 ≤ a → (r : Option Mantissa) → r ≡ mantissa_of w (j - i + (k - (j + 1))) (k - (j + 1)) k → MantissaFound s i r
      unfolding mantissa_at before_point behind_point
      behind_run h r g = record {
        says = g ∙ rw (ran_run s i 0 12 v j e x l, reached i j x.low, eq-eqb (get_or s j 0) 46 p, ran_run s (j + 1) v (12 - (j - i)) w k a y h, reached (j + 1) k y.low) refl;
        good = rw g (mantissa_in w (j - i + (k - (j + 1))) (k - (j + 1)) k (length s) (omega (arith, y.few, x.few)) y.high);
      }

-- ---- digits only
module _ (s : List ℕ) (i v j e : ℕ) (x : Ran s i 0 12 v j e) where
  pub count_long : e < 16 → CountFound s i None
  unfolding count_at count_of
  count_long l = record { says = rw (ran_long s i 0 12 v j e x l) refl; good = tt }

  module _ (l : 16 ≤ e) where
    pub count_none : j ≡ i → CountFound s i None
    unfolding count_at count_of
    count_none h = let k : j - i ≡ 0 = omega arith in record { says = rw (ran_run s i 0 12 v j e x l, k) refl; good = tt }

    module _ (h : j ≡ i → ⊥) where
      some : 0 < j - i
      some = omega (arith, x.low)

      pub count_large : bound ≤ v → CountFound s i None
      unfolding count_at count_of
      count_large m = record { says = rw (ran_run s i 0 12 v j e x l, lt-ltb 0 (j - i) some, le-ltb v bound m) refl; good = tt }

      pub count_is : v < bound → CountFound s i (Some (count_with v j))
      unfolding count_at count_of
      count_is m = record { says = rw (ran_run s i 0 12 v j e x l, lt-ltb 0 (j - i) some, lt-ltb v bound m, reached i j x.low) refl; good = (m, x.high) }
