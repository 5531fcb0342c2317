-- What the reading of a number rests on: no place of the code is named here. Assumes nothing.
use mathlib.Core.Path.{◌≡◌, refl, ◌∙◌}
use mathlib.Core.Bool.{Bool, true, false}
use mathlib.Core.List.{List}
use Prim.Native.Nat.{ℕ, ◌+◌, ◌-◌}
use native.Mathlib.Omega.{arith}
use lib.ListN.{get_or}
use borrow.Author.Tests.{eq-eqb, ne_eqb}
use Rattle.decimal_spec.specs.Number.{raised, unsigned, number_at}
use Rattle.decimal_digits.specs.Found.{MantissaFound}
use Rattle.decimal_power.specs.Found.{ExponentFound}
use Rattle.decimal.specs.Found.{UnsignedFound, NumberFound}
use Rattle.std.specs.Prelude.{Option, Some, None}
use Rattle.decimal_spec.specs.declared.Number.{Number}
use Rattle.decimal_spec.specs.Parts.{mantissa_with, exponent_with, number_with}

-- ---- a number
module _ (s : List ℕ) (i : ℕ) (minus : Bool) where
  pub no_mantissa : MantissaFound s i None → UnsignedFound s i minus None
  unfolding unsigned
  no_mantissa x = record { says = rw (← x.says) refl; good = tt }

  module _ (v f j : ℕ) (x : MantissaFound s i (Some (mantissa_with v f j))) where
    pub bad_exponent : ExponentFound s j None → UnsignedFound s i minus None
    unfolding unsigned raised
    bad_exponent y = record { says = rw (← x.says, ← y.says) refl; good = tt }

    pub decimal_is : (p k : ℕ) → ExponentFound s j (Some (exponent_with p k)) → UnsignedFound s i minus (Some (number_with minus v (p - f) k))
    unfolding unsigned raised
    decimal_is p k y = record { says = rw (← x.says, ← y.says) refl; good = (x.good.0, omega (arith, y.good.1), y.good.2) }

module _ (s : List ℕ) (i : ℕ) (r : Option Number) where
  pub number_plus : get_or s i 0 ≡ 43 → UnsignedFound s (i + 1) false r → NumberFound s i r
  unfolding number_at
  number_plus e x = record { says = x.says ∙ rw (eq-eqb (get_or s i 0) 43 e) refl; good = x.good }

  module _ (n : get_or s i 0 ≡ 43 → ⊥) where
    pub number_minus : get_or s i 0 ≡ 45 → UnsignedFound s (i + 1) true r → NumberFound s i r
    unfolding number_at
    number_minus e x = record { says = x.says ∙ rw (ne_eqb (get_or s i 0) 43 n, eq-eqb (get_or s i 0) 45 e) refl; good = x.good }

    pub number_plain : (get_or s i 0 ≡ 45 → ⊥) → UnsignedFound s i false r → NumberFound s i r
    unfolding number_at
    number_plain m x = record { says = x.says ∙ rw (ne_eqb (get_or s i 0) 43 n, ne_eqb (get_or s i 0) 45 m) refl; good = x.good }
