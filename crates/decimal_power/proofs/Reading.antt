-- What the reading of an exponent rests on: no place of the code is named here. Assumes nothing.
use mathlib.Core.Path.{◌≡◌, refl, ◌∙◌}
use mathlib.Core.Bool.{Bool, true, false}
use mathlib.Core.List.{List}
use Prim.Native.Nat.{ℕ, ◌+◌, ◌-◌, ◌<◌, ◌≤◌}
use native.Mathlib.Omega.{arith}
use lib.ListN.{length, get_or}
use borrow.Author.Tests.{lt-ltb, le-ltb, eq-eqb, ne_eqb}
use Rattle.terms.specs.Logic.{pick}
use Rattle.alphabet.specs.Ran.{Ran}
use Rattle.decimal_spec.specs.Number.{origin, power_of, exponent_at}
use Rattle.decimal_power.specs.Found.{ExponentIn, PowerFound, ExponentFound}
use Rattle.decimal_digits.proofs.Reading.{ran_long, ran_run, reached}
use Rattle.std.specs.Prelude.{Option, Some, None}
use Rattle.decimal_spec.specs.declared.Exponent.{Exponent}
use Rattle.decimal_spec.specs.Parts.{exponent_with}

-- ---- an exponent
module _ (s : List ℕ) (i : ℕ) (minus : Bool) (x j e : ℕ) (r : Ran s i 0 3 x j e) where
  pub power_long : e < 16 → PowerFound s i minus None
  unfolding power_of
  power_long l = record { says = rw (ran_long s i 0 3 x j e r l) refl; good = tt }

  module _ (l : 16 ≤ e) where
    pub power_short : j - i < 2 → PowerFound s i minus None
    unfolding power_of
    power_short h = let k : j - i ≤ 1 = omega arith in record { says = rw (ran_run s i 0 3 x j e r l, le-ltb 1 (j - i) k) refl; good = tt }

    module _ (h : 2 ≤ j - i) where
      pub power_large : 99 < x → PowerFound s i minus None
      unfolding power_of
      power_large m = record { says = rw (ran_run s i 0 3 x j e r l, lt-ltb 1 (j - i) h, le-ltb x 100 m) refl; good = tt }

      pub power_is : x ≤ 99 → (p : ℕ) → p ≡ pick minus (origin - x) (origin + x) → PowerFound s i minus (Some (exponent_with p j))
      unfolding power_of
      power_is m p g =
          let k : x < 100 = omega arith in
          record {
            says = rw (ran_run s i 0 3 x j e r l, lt-ltb 1 (j - i) h, lt-ltb x 100 k, reached i j r.low, g) refl;
            good = rw g (bounds minus k);
          }
        where
          bounds : (t : Bool) → x < 100 → ExponentIn (length s) (Some (exponent_with (pick t (origin - x) (origin + x)) j))
          bounds true b = (omega arith, omega arith, r.high)
          bounds false b = (omega arith, omega arith, r.high)

module _ (s : List ℕ) (i : ℕ) where
  pub no_exponent : (get_or s i 0 ≡ 69 → ⊥) → i ≤ length s → ExponentFound s i (Some (exponent_with origin i))
  unfolding exponent_at
  no_exponent n l = record { says = rw (ne_eqb (get_or s i 0) 69 n) refl; good = (omega arith, omega arith, l) }

  module _ (e : get_or s i 0 ≡ 69) where
    pub exponent_plus : get_or s (i + 1) 0 ≡ 43 → (r : Option Exponent) → PowerFound s (i + 2) false r → ExponentFound s i r
    unfolding exponent_at
    exponent_plus p r x = record { says = x.says ∙ rw (eq-eqb (get_or s i 0) 69 e, eq-eqb (get_or s (i + 1) 0) 43 p) refl; good = x.good }

    module _ (n : get_or s (i + 1) 0 ≡ 43 → ⊥) where
      pub exponent_minus : get_or s (i + 1) 0 ≡ 45 → (r : Option Exponent) → PowerFound s (i + 2) true r → ExponentFound s i r
      unfolding exponent_at
      exponent_minus p r x = record { says = x.says ∙ rw (eq-eqb (get_or s i 0) 69 e, ne_eqb (get_or s (i + 1) 0) 43 n, eq-eqb (get_or s (i + 1) 0) 45 p) refl; good = x.good }

      pub no_sign : (get_or s (i + 1) 0 ≡ 45 → ⊥) → ExponentFound s i None
      unfolding exponent_at
      no_sign m = record { says = rw (eq-eqb (get_or s i 0) 69 e, ne_eqb (get_or s (i + 1) 0) 43 n, ne_eqb (get_or s (i + 1) 0) 45 m) refl; good = tt }
