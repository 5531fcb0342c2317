-- What taking a mantissa and an exponent needs, on the scale of `frame::lift`: a number x stands as x + 10^10, one beyond the largest abscissa as 0. Assumes nothing.
use mathlib.Core.Path.{◌≡◌, refl}
use mathlib.Core.Bool.{Bool, true, false}
use Prim.Native.Nat.{ℕ, suc, ◌+◌, ◌-◌, ◌≤◌, ◌<◌}
use native.Mathlib.Omega.{arith}
use lib.Dec.{ltb, leb}
use lib.IntN.{ℤ, pos, negsuc, nat_abs}
use borrow.Author.Tests.{leb-true, leb-false, lt-ltb, le-ltb}
use Rattle.terms.specs.Logic.{pick, both, by_case}
use Rattle.table_spec.specs.Frame.{lift}
use Rattle.frame.specs.Legal.{lifted}
use Rattle.file_spec.specs.declared.Decimal.{Decimal}
use Rattle.file_write_spec.specs.declared.GivenDecimal.{GivenDecimal}
use Rattle.file_write_spec.specs.Decimals.{negative, decimal_of, decimal_taken}
use Rattle.file_spec.specs.Figures.{exceeding}
use Rattle.file_write_spec.specs.declared.Scales.{Scales}
use Rattle.file_given.specs.Taking.{given_of, from_firstx, figures_for}
use Rattle.std.specs.Prelude.{Some, None, Ok, Err}

-- a number below k in size, and one that is not
pub small_not : (k : ℕ) (z : ℤ) → k ≤ 9999999999 → lifted z ≤ 10000000000 - k → k ≤ nat_abs z
unfolding lifted
small_not k (pos n) h = by_case (λ q. leb n 9999999999 ≡ q → pick q (10000000000 + n) 0 ≤ 10000000000 - k → k ≤ n) (leb n 9999999999) (λ _ q l. omega arith)
    (λ _ q l. omega (arith, leb-false n 9999999999 q)) refl
small_not k (negsuc n) h = by_case (λ q. leb (suc n) 9999999999 ≡ q → pick q (10000000000 - suc n) 0 ≤ 10000000000 - k → k ≤ suc n) (leb (suc n) 9999999999)
    (λ _ q l. omega (arith, leb-true (suc n) 9999999999 q)) (λ _ q l. omega (arith, leb-false (suc n) 9999999999 q)) refl

pub large_not : (k : ℕ) (z : ℤ) → 10000000000 + k ≤ lifted z → k ≤ nat_abs z
unfolding lifted
large_not k (pos n) = by_case (λ q. leb n 9999999999 ≡ q → 10000000000 + k ≤ pick q (10000000000 + n) 0 → k ≤ n) (leb n 9999999999) (λ _ q l. omega arith) (λ _ q l. absurd (omega arith)) refl
large_not k (negsuc n) = by_case (λ q. leb (suc n) 9999999999 ≡ q → 10000000000 + k ≤ pick q (10000000000 - suc n) 0 → k ≤ suc n) (leb (suc n) 9999999999)
    (λ _ q l. omega arith) (λ _ q l. absurd (omega arith)) refl

-- what it is
pub record Lifted (k : ℕ) (z : ℤ) (minus : Bool) (size : ℕ) : Type 0 where
  pub small : nat_abs z < k
  pub sign : negative z ≡ minus
  pub is : nat_abs z ≡ size

pub below : (k : ℕ) (z : ℤ) → k ≤ 9999999999 → 10000000000 - k < lifted z → lifted z < 10000000000 → Lifted k z true (10000000000 - lifted z)
unfolding lifted
below k (pos n) h = by_case (λ q. 10000000000 - k < pick q (10000000000 + n) 0 → pick q (10000000000 + n) 0 < 10000000000
    → Lifted k (pos n) true (10000000000 - pick q (10000000000 + n) 0)) (leb n 9999999999)
    (λ _ a b. absurd (omega arith)) (λ _ a b. absurd (omega arith))
below k (negsuc n) h = by_case (λ q. leb (suc n) 9999999999 ≡ q → 10000000000 - k < pick q (10000000000 - suc n) 0 → pick q (10000000000 - suc n) 0 < 10000000000
    → Lifted k (negsuc n) true (10000000000 - pick q (10000000000 - suc n) 0)) (leb (suc n) 9999999999)
    (λ _ q a b. let l = leb-true (suc n) 9999999999 q in record { small = omega arith; sign = refl; is = omega arith }) (λ _ q a b. absurd (omega arith)) refl

pub above : (k : ℕ) (z : ℤ) → 10000000000 ≤ lifted z → lifted z < 10000000000 + k → Lifted k z false (lifted z - 10000000000)
unfolding lifted
above k (pos n) = by_case (λ q. 10000000000 ≤ pick q (10000000000 + n) 0 → pick q (10000000000 + n) 0 < 10000000000 + k
    → Lifted k (pos n) false (pick q (10000000000 + n) 0 - 10000000000)) (leb n 9999999999)
    (λ _ a b. record { small = omega arith; sign = refl; is = omega arith }) (λ _ a b. absurd (omega arith))
above k (negsuc n) = by_case (λ q. 10000000000 ≤ pick q (10000000000 - suc n) 0 → pick q (10000000000 - suc n) 0 < 10000000000 + k
    → Lifted k (negsuc n) false (pick q (10000000000 - suc n) 0 - 10000000000)) (leb (suc n) 9999999999)
    (λ _ a b. absurd (omega arith)) (λ _ a b. absurd (omega arith))

pub power_at : (z : ℤ) → 9999999900 < lifted z → lifted z < 10000000100 → (nat_abs z < 100) × (lifted z - 9999999800 ≡ lift 200 z)
unfolding lifted
power_at (pos n) = by_case (λ q. 9999999900 < pick q (10000000000 + n) 0 → pick q (10000000000 + n) 0 < 10000000100
    → (n < 100) × (pick q (10000000000 + n) 0 - 9999999800 ≡ 200 + n)) (leb n 9999999999)
    (λ _ a b. (omega arith, omega arith)) (λ _ a b. absurd (omega arith))
power_at (negsuc n) = by_case (λ q. 9999999900 < pick q (10000000000 - suc n) 0 → pick q (10000000000 - suc n) 0 < 10000000100
    → (suc n < 100) × (pick q (10000000000 - suc n) 0 - 9999999800 ≡ 200 - suc n)) (leb (suc n) 9999999999)
    (λ _ a b. (omega arith, omega arith)) (λ _ a b. absurd (omega arith))

module _ (d : GivenDecimal) where
  pub no_mantissa : 1000000000 ≤ nat_abs d.mantissa → None ≡ given_of d
  unfolding given_of decimal_taken
  no_mantissa h = rw (le-ltb (nat_abs d.mantissa) 1000000000 h) refl

  pub no_exponent : 100 ≤ nat_abs d.exponent → None ≡ given_of d
  unfolding given_of decimal_taken
  no_exponent h =
      rw (le-ltb (nat_abs d.exponent) 100 h)
      (by_case (λ q. None ≡ pick (both q false) (Some (decimal_of d)) None) (ltb (nat_abs d.mantissa) 1000000000) (λ _. refl) (λ _. refl))

  pub is_given : {minus : Bool} {size p : ℕ} → Lifted 1000000000 d.mantissa minus size → nat_abs d.exponent < 100 → p ≡ lift 200 d.exponent
      → Some (record { minus = minus; mantissa = size; power = p }) ≡ given_of d
  unfolding given_of decimal_taken
  is_given x h e = rw (lt-ltb (nat_abs d.mantissa) 1000000000 x.small, lt-ltb (nat_abs d.exponent) 100 h, e, ← x.sign, ← x.is) refl

  -- the same of the numbers u and v that the code has
  module _ {u v : ℕ} (a : u ≡ lifted d.mantissa) (b : v ≡ lifted d.exponent) (l : 9999999900 < v) (h : v < 10000000100) where
    power_of : (nat_abs d.exponent < 100) × (v - 9999999800 ≡ lift 200 d.exponent)
    power_of = rw b (power_at d.exponent (rw b at l) (rw b at h))

    pub given_below : 9000000000 < u → u < 10000000000
        → (Some (record { minus = true; mantissa = 10000000000 - u; power = v - 9999999800 }) ≡ given_of d) × (10000000000 - u < 1000000000) × (v - 9999999800 < 300)
    given_below x y =
        let m : Lifted 1000000000 d.mantissa true (10000000000 - u) = rw a (below 1000000000 d.mantissa (omega arith) (rw a at x) (rw a at y)) in
        (is_given m power_of.0 power_of.1, omega arith, omega arith)

    pub given_above : 10000000000 ≤ u → u < 11000000000
        → (Some (record { minus = false; mantissa = u - 10000000000; power = v - 9999999800 }) ≡ given_of d) × (u - 10000000000 < 1000000000) × (v - 9999999800 < 300)
    given_above x y =
        let m : Lifted 1000000000 d.mantissa false (u - 10000000000) = rw a (above 1000000000 d.mantissa (rw a at x) (rw a at y)) in
        (is_given m power_of.0 power_of.1, omega arith, omega arith)

-- ---- the five, one after the other

module _ (c : Scales) (n : ℕ) where
  pub xfactor_wrong : exceeding (given_of c.xfactor) ≡ None → Err 0 ≡ figures_for c n
  unfolding figures_for
  xfactor_wrong e = rw e refl

  module _ {xf : Decimal} (e : exceeding (given_of c.xfactor) ≡ Some xf) where
    pub yfactor_wrong : exceeding (given_of c.yfactor) ≡ None → Err 0 ≡ figures_for c n
    unfolding figures_for
    yfactor_wrong f = rw (e, f) refl

    pub factors_right : {yf : Decimal} → exceeding (given_of c.yfactor) ≡ Some yf → from_firstx c n xf yf ≡ figures_for c n
    unfolding figures_for
    factors_right f = rw (e, f) refl

  module _ (xf yf : Decimal) where
    pub firstx_wrong : given_of c.firstx ≡ None → Err 0 ≡ from_firstx c n xf yf
    unfolding from_firstx
    firstx_wrong e = rw e refl

    module _ {fx : Decimal} (e : given_of c.firstx ≡ Some fx) where
      pub lastx_wrong : given_of c.lastx ≡ None → Err 0 ≡ from_firstx c n xf yf
      unfolding from_firstx
      lastx_wrong f = rw (e, f) refl

      module _ {lx : Decimal} (f : given_of c.lastx ≡ Some lx) where
        pub firsty_wrong : given_of c.firsty ≡ None → Err 0 ≡ from_firstx c n xf yf
        unfolding from_firstx
        firsty_wrong g = rw (e, f, g) refl

        pub all_right : {fy : Decimal} → given_of c.firsty ≡ Some fy
            → Ok (record { xfactor = xf; yfactor = yf; firstx = fx; lastx = lx; npoints = n; firsty = fy }) ≡ from_firstx c n xf yf
        unfolding from_firstx
        all_right g = rw (e, f, g) refl
