-- The nearest whole number by quotient and remainder, the answer that it gives, and whether it is exact: no place of the code is named here. Assumes nothing.
use mathlib.Core.Path.{◌≡◌, refl}
use mathlib.Core.Bool.{Bool, true, false}
use Prim.Native.Nat.{ℕ, ◌+◌, ◌-◌, ◌*◌, ◌/◌, ◌%◌, ◌≤◌, ◌<◌}
use native.Mathlib.Omega.{arith}
use native.Mathlib.Nat.{mul-mod_right}
use native.Mathlib.Nat.{div-add-mod, mod-lt}
use lib.Dec.{eqb}
use borrow.Author.Tests.{lt-ltb, eq-eqb, eqb-true}
use Rattle.terms.specs.Logic.{no_way}
use Rattle.decimal_spec.specs.Quotient.{Nearest, IsRounded, IsQuotient, zero_quotient, beyond_quotient}
use Rattle.decimal_spec.proofs.QuotientLaws.{nearest_unique}
use Rattle.std.specs.Prelude.{Some, None}
use Rattle.decimal_spec.specs.Parts.{whole_with}

-- ---- the nearest number by quotient and remainder
module _ (n d : ℕ) (h : 0 < d) where
  pub past_half : (minus : Bool) → d < 2 * (n % d) → Nearest minus n d (n / d + 1)
  past_half false l = record { reaches = omega (arith, div-add-mod n d, mod-lt n h); covers = omega (arith, div-add-mod n d, mod-lt n h) }
  past_half true l = record { reaches = omega (arith, div-add-mod n d, mod-lt n h); covers = omega (arith, div-add-mod n d, mod-lt n h) }

  pub before_half : (minus : Bool) → 2 * (n % d) < d → Nearest minus n d (n / d)
  before_half false l = record { reaches = omega (arith, div-add-mod n d, mod-lt n h); covers = omega (arith, div-add-mod n d, mod-lt n h) }
  before_half true l = record { reaches = omega (arith, div-add-mod n d, mod-lt n h); covers = omega (arith, div-add-mod n d, mod-lt n h) }

  pub half_down : 2 * (n % d) ≡ d → Nearest true n d (n / d)
  half_down e = record { reaches = omega (arith, div-add-mod n d); covers = omega (arith, div-add-mod n d) }

  pub half_up : 2 * (n % d) ≡ d → Nearest false n d (n / d + 1)
  half_up e = record { reaches = omega (arith, div-add-mod n d); covers = omega (arith, div-add-mod n d) }

  -- nothing is left where the quotient times the divisor is the dividend, and only there
  none_left : (minus : Bool) (q : ℕ) → Nearest minus n d q → n % d ≡ 0 → d * q ≡ n
  none_left minus q x e =
      let z = nearest_unique minus n d q (n / d) h x (before_half minus (omega arith)) in
      rw z (omega (arith, div-add-mod n d))

  left_none : (q : ℕ) → d * q ≡ n → n % d ≡ 0
  left_none q e = rw (← e) (mul-mod_right d q)

-- ---- the answer that a nearest number gives
over : (limit : ℕ) (minus : Bool) (a b q : ℕ) → Nearest minus a b q → limit < q → IsRounded limit minus a b None
over limit minus a b q x h = (q, x, h)

pub zero : (limit : ℕ) (minus : Bool) (a b q : ℕ) → Nearest minus a b q → q ≡ 0 → IsRounded limit minus a b (Some (whole_with false 0))
zero limit false a b q x e = (rw e at x, omega arith, refl)
zero limit true a b q x e = (rw e at x, omega arith, refl)

signed : (limit : ℕ) (minus : Bool) (a b q : ℕ) → Nearest minus a b q → (q ≡ 0 → ⊥) → q ≤ limit → IsRounded limit minus a b (Some (whole_with minus q))
signed limit false a b q x n h = (x, h, refl)
signed limit true a b q x n h = let p : 0 < q = omega arith in (x, h, rw (lt-ltb 0 q p) refl)

-- ---- and whether it is exact
pub over_limit : (limit : ℕ) (minus : Bool) (a b q : ℕ) → Nearest minus a b q → limit < q → IsQuotient limit minus a b beyond_quotient
over_limit limit minus a b q x h = record { rounds = over limit minus a b q x h; sound = λ e. no_way e; complete = λ e. absurd e }

by_rest : (limit : ℕ) (minus sign : Bool) (a b q : ℕ) → 0 < b → Nearest minus a b q → IsRounded limit minus a b (Some (whole_with sign q))
    → IsQuotient limit minus a b (record { rounded = Some (whole_with sign q); exact = eqb (a % b) 0 })
by_rest limit minus sign a b q h x r =
    record { rounds = r; sound = λ e. none_left a b h minus q x (eqb-true (a % b) 0 e); complete = λ e. eq-eqb (a % b) 0 (left_none a b h q e) }

pub zero_by_rest : (limit : ℕ) (minus : Bool) (a b q : ℕ) → 0 < b → Nearest minus a b q → q ≡ 0 → IsQuotient limit minus a b (zero_quotient (eqb (a % b) 0))
zero_by_rest limit minus a b q h x e = by_rest limit minus false a b 0 h (rw e at x) (zero limit minus a b q x e)

pub signed_by_rest : (limit : ℕ) (minus : Bool) (a b q : ℕ) → 0 < b → Nearest minus a b q → (q ≡ 0 → ⊥) → q ≤ limit
    → IsQuotient limit minus a b (record { rounded = Some (whole_with minus q); exact = eqb (a % b) 0 })
signed_by_rest limit minus a b q h x n l = by_rest limit minus minus a b q h x (signed limit minus a b q x n l)
