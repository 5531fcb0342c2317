-- What the division of two decimals rests on: no place of the code is named here. Assumes nothing.
use mathlib.Core.Path.{◌≡◌, refl, sym, ap, ◌∙◌}
use mathlib.Core.Bool.{Bool, true, false}
use Prim.Native.Nat.{ℕ, ◌+◌, ◌-◌, ◌*◌, ◌/◌, ◌^◌, ◌≤◌, ◌<◌}
use native.Mathlib.Omega.{arith}
use native.Mathlib.Nat.{mul-lt-mul_of_pos_right, mul-le-mul_right, mul-le-mul_left, mul-le-mul, mul-pos, mul_assoc, mul_right_comm, zero-mul, eq_of_mul-eq-mul_right}
use native.Mathlib.Nat.{div-lt_iff_lt-mul, le-div_iff_mul-le, pow-le-pow_right, one-le-pow}
use lib.Pow.{pow-add}
use lib.Dec.{lit<, eqb}
use borrow.Author.Tests.{eq-eqb, eqb-true}
use Rattle.decimal_spec.specs.Number.{bound}
use Rattle.decimal_spec.specs.declared.Quotient.{Quotient}
use Rattle.decimal_spec.specs.Quotient.{Reaches, Nearest, IsRounded, nearest, Exact, IsQuotient, quotient_of, zero_quotient, beyond_quotient}
use Rattle.decimal_spec.proofs.QuotientLaws.{reaches_le, nearest_is, quotient_is}
use Rattle.nearest_whole.proofs.Rests.{zero, over_limit}
use Rattle.std.specs.Prelude.{Option, Some, None}
use Rattle.decimal_spec.specs.declared.Whole.{Whole}
use Rattle.decimal_spec.specs.Parts.{whole_with}

-- ---- answers that are known without the product
-- zero, where the quotient is below a half; exact where the dividend is zero
pub below_half : (limit : ℕ) (minus : Bool) (a b : ℕ) (x : Bool) → 2 * a < b → (x ≡ true → a ≡ 0) → (a ≡ 0 → x ≡ true) → IsQuotient limit minus a b (zero_quotient x)
below_half limit minus a b x h f g =
    record { rounds = rounds minus; sound = λ e. let z = f e in omega arith; complete = λ e. g (omega arith) }
  where
    rounds : (minus : Bool) → IsRounded limit minus a b (Some (whole_with false 0))
    rounds false = zero limit false a b 0 (record { reaches = omega arith; covers = omega arith }) refl
    rounds true = zero limit true a b 0 (record { reaches = omega arith; covers = omega arith }) refl

reaches_far : (minus : Bool) (a b q : ℕ) → b * q < a → Reaches minus a b q
reaches_far false a b q h = omega arith
reaches_far true a b q h = omega arith

-- beyond a limit of ten digits, where the dividend has twenty and the divisor nine
pub far : (limit : ℕ) (minus : Bool) (a b : ℕ) → limit < 10000000000 → 0 < b → b < bound → 10000000000000000000 ≤ a → IsQuotient limit minus a b beyond_quotient
far limit minus a b k z h l =
    let m : b * (limit + 1) ≤ b * 10000000000 = mul-le-mul_left b (omega arith) in
    let r = reaches_far minus a b (limit + 1) (omega arith) in
    over_limit limit minus a b (nearest minus a b) (nearest_is minus a b z) (omega (arith, reaches_le minus a b (limit + 1) (nearest minus a b) z r (nearest_is minus a b z).covers))

-- ---- powers of ten
pub tens : (e : ℕ) → 0 < 10 ^ e
tens e = one-le-pow e 10 (lit< tt)

pub positive : (p k : ℕ) → p ≡ 10 ^ k → 0 < p
positive p k e = rw e (tens k)

split : (e f : ℕ) → e ≤ f → 10 ^ f ≡ 10 ^ (f - e) * 10 ^ e
split e f h = let x : f ≡ f - e + e = omega arith in ap (λ (k : ℕ). 10 ^ k) x ∙ pow-add 10 (f - e) e

-- a common factor changes nothing
scaled_nearest : (minus : Bool) (a b c q : ℕ) → 0 < c → Nearest minus a b q → Nearest minus (a * c) (b * c) q
scaled_nearest false a b c q h x =
    record { reaches = omega (arith, mul-le-mul_right c x.reaches); covers = omega (arith, mul-lt-mul_of_pos_right x.covers h) }
scaled_nearest true a b c q h x =
    record { reaches = omega (arith, mul-lt-mul_of_pos_right x.reaches h); covers = omega (arith, mul-le-mul_right c x.covers) }

scaled_rounded : (limit : ℕ) (minus : Bool) (a b c : ℕ) (r : Option Whole) → 0 < c → IsRounded limit minus a b r → IsRounded limit minus (a * c) (b * c) r
scaled_rounded limit minus a b c (Some y) h x = (scaled_nearest minus a b c y.size h x.0, x.1, x.2)
scaled_rounded limit minus a b c None h x = (x.0, scaled_nearest minus a b c x.0 h x.1, x.2)

scaled_exact : (a b c : ℕ) (r : Option Whole) → Exact a b r → Exact (a * c) (b * c) r
scaled_exact a b c (Some y) e = mul_right_comm b c y.size ∙ ap (λ (x : ℕ). x * c) e
scaled_exact a b c None e = e

exact_scaled : (a b c : ℕ) (r : Option Whole) → 0 < c → Exact (a * c) (b * c) r → Exact a b r
exact_scaled a b c (Some x) h e = eq_of_mul-eq-mul_right c h (b * x.size) a (sym (mul_right_comm b c x.size) ∙ e)
exact_scaled a b c None h e = e

scaled : (limit : ℕ) (minus : Bool) (a b c : ℕ) (x : Quotient) → 0 < c → IsQuotient limit minus a b x → IsQuotient limit minus (a * c) (b * c) x
scaled limit minus a b c x h k =
    record {
      rounds = scaled_rounded limit minus a b c x.rounded h k.rounds;
      sound = λ e. scaled_exact a b c x.rounded (k.sound e);
      complete = λ e. k.complete (exact_scaled a b c x.rounded h e);
    }

-- so the exponents count by their difference alone
module _ (limit : ℕ) (minus : Bool) (m1 e1 m2 e2 : ℕ) (h : 0 < m2) (x : Quotient) where
  pub down : e1 ≤ e2 → IsQuotient limit minus m1 (m2 * 10 ^ (e2 - e1)) x → x ≡ quotient_of limit minus (m1 * 10 ^ e1) (m2 * 10 ^ e2)
  down l k =
      quotient_is limit minus (m1 * 10 ^ e1) (m2 * 10 ^ e2) x (mul-pos h (tens e2))
      (rw (split e1 e2 l, ← mul_assoc m2 (10 ^ (e2 - e1)) (10 ^ e1)) (scaled limit minus m1 (m2 * 10 ^ (e2 - e1)) (10 ^ e1) x (tens e1) k))

  pub up : e2 ≤ e1 → IsQuotient limit minus (m1 * 10 ^ (e1 - e2)) m2 x → x ≡ quotient_of limit minus (m1 * 10 ^ e1) (m2 * 10 ^ e2)
  up l k =
      quotient_is limit minus (m1 * 10 ^ e1) (m2 * 10 ^ e2) x (mul-pos h (tens e2))
      (rw (split e2 e1 l, ← mul_assoc m1 (10 ^ (e1 - e2)) (10 ^ e2)) (scaled limit minus (m1 * 10 ^ (e1 - e2)) m2 (10 ^ e2) x (tens e2) k))

-- ---- by the difference k of the exponents
pub tiny : (limit : ℕ) (minus : Bool) (m1 m2 k : ℕ) → m1 < bound → 0 < m2 → 9 < k → IsQuotient limit minus m1 (m2 * 10 ^ k) (zero_quotient (eqb m1 0))
tiny limit minus m1 m2 k a b c =
    let p : 10 ^ 10 ≤ 10 ^ k = pow-le-pow_right (lit< tt) c in
    let q : 1 * 10 ^ 10 ≤ m2 * 10 ^ k = mul-le-mul b p in
    below_half limit minus m1 (m2 * 10 ^ k) (eqb m1 0) (omega arith) (eqb-true m1 0) (eq-eqb m1 0)

pub nil : (limit : ℕ) (minus : Bool) (m1 m2 k : ℕ) → m1 ≡ 0 → 0 < m2 → IsQuotient limit minus (m1 * 10 ^ k) m2 (zero_quotient true)
nil limit minus m1 m2 k e h =
    let z : m1 * 10 ^ k ≡ 0 = ap (λ (x : ℕ). x * 10 ^ k) e ∙ zero-mul (10 ^ k) in
    below_half limit minus (m1 * 10 ^ k) m2 true (omega arith) (λ _. z) (λ _. refl)

pub huge : (limit : ℕ) (minus : Bool) (m1 m2 k : ℕ) → limit < 10000000000 → 0 < m2 → m2 < bound → (m1 ≡ 0 → ⊥) → 18 < k → IsQuotient limit minus (m1 * 10 ^ k) m2 beyond_quotient
huge limit minus m1 m2 k l z b a c =
    let p : 10 ^ 19 ≤ 10 ^ k = pow-le-pow_right (lit< tt) c in
    let n : 1 ≤ m1 = omega arith in
    let q : 1 * 10 ^ 19 ≤ m1 * 10 ^ k = mul-le-mul n p in
    far limit minus (m1 * 10 ^ k) m2 l z b (omega arith)

-- ---- by the power p itself
pub large : (limit : ℕ) (minus : Bool) (m1 m2 p : ℕ) → limit < 10000000000 → 0 < m2 → m2 < bound → 0 < p → 9999999999999999999 / p < m1 → IsQuotient limit minus (m1 * p) m2 beyond_quotient
large limit minus m1 m2 p l z b a c = far limit minus (m1 * p) m2 l z b ((div-lt_iff_lt-mul a).0 c)

pub within : (m1 p : ℕ) → 0 < p → m1 ≤ 9999999999999999999 / p → m1 * p < 10000000000000000000
within m1 p a c = omega (arith, (le-div_iff_mul-le a).0 c)

pub product : (m p k : ℕ) → m < bound → k ≤ 9 → p ≡ 10 ^ k → m * p ≤ 1000000000000000000
product m p k h l e =
    let q : 10 ^ k ≤ 10 ^ 9 = pow-le-pow_right (lit< tt) l in
    rw e (mul-le-mul {n₂ = bound} {m₂ = 10 ^ 9} (omega arith) q)
