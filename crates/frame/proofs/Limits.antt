-- From the tests of the code to the limits of the frame, and that the head check holds in 64 bits. No place of the code is named here. Assumes nothing.
use mathlib.Core.Path.{◌≡◌, refl, sym}
use mathlib.Core.Bool.{Bool, true, false, not, beq}
use Prim.Native.Nat.{ℕ, suc, ◌-◌, ◌*◌, ◌<◌, ◌≤◌}
use native.Mathlib.Omega.{arith}
use native.Mathlib.Nat.{mul-le-mul, mul_comm}
use lib.Dec.{leb, eqb}
use lib.IntN.{ℤ, pos, negsuc}
use lib.Signed.{mag, lt_z}
use mir.Syntax.{w64}
use mir.Val.{SFits}
use borrow.Author.Tests.{ltb-true, ltb-false, lt-ltb, le-ltb, le-leb, lt-leb, eq-eqb, ne_eqb}
use Rattle.terms.specs.Logic.{pick, by_case, no_way}
use Rattle.table_spec.specs.Frame.{frame_legal, abscissa, abscissa_legal, zero_abscissa, passes, apart, twice_off}
use Rattle.signed.specs.Scale.{lift_small}
use Rattle.frame.specs.declared.Frame.{Frame}
use Rattle.frame.specs.Legal.{framed, lifted, Sound}
use Rattle.frame.specs.FrameLaws.{legal_abscissa}
use Rattle.std.specs.Prelude.{Some, None}

-- ---- one abscissa

pub too_low : (x : ℤ) → lt_z x (negsuc 9999999998) ≡ true → lifted x ≡ 0
unfolding lifted
too_low (pos n) e = no_way e
too_low (negsuc n) e = rw (lt-leb (suc n) 9999999999 (omega (arith, ltb-true 9999999998 n e))) refl

pub too_high : (x : ℤ) → lt_z (pos 9999999999) x ≡ true → lifted x ≡ 0
unfolding lifted
too_high (pos n) e = rw (lt-leb n 9999999999 (ltb-true 9999999999 n e)) refl
too_high (negsuc n) e = no_way e

pub within_mag : (x : ℤ) → lt_z x (negsuc 9999999998) ≡ false → lt_z (pos 9999999999) x ≡ false → mag x < zero_abscissa
within_mag (pos n) e f = omega (arith, ltb-false 9999999999 n f)
within_mag (negsuc n) e f = omega (arith, ltb-false 9999999998 n e)

pub within_limits : (x : ℤ) → lt_z x (negsuc 9999999998) ≡ false → lt_z (pos 9999999999) x ≡ false → abscissa x ≡ lifted x
unfolding lifted
within_limits (pos n) e f = rw (le-leb n 9999999999 (ltb-false 9999999999 n f)) refl
within_limits (negsuc n) e f = rw (le-leb (suc n) 9999999999 (omega (arith, ltb-false 9999999998 n e))) refl

pub lifted_fits : (x : ℤ) → mag x < zero_abscissa → SFits w64 (pos (abscissa x))
lifted_fits x h = record { sfits = omega (arith, lift_small zero_abscissa x h) }

-- a number that was lifted is 0 exactly where it is outside
pub lifted_zero : (x : ℤ) → lifted x ≡ 0 → abscissa_legal x ≡ false
unfolding lifted
lifted_zero x =
    by_case (λ t. abscissa_legal x ≡ t → pick t (abscissa x) 0 ≡ 0 → t ≡ false) (abscissa_legal x)
    (λ _ e h. let l = legal_abscissa x e in absurd (omega (arith, l.0))) (λ _ _ _. refl) refl

pub record Lifts (x : ℤ) (u : ℕ) : Type 0 where
  pub legal : abscissa_legal x ≡ true
  pub is : abscissa x ≡ u
  pub small : u < 20000000000

pub lifted_some : (x : ℤ) (u : ℕ) → u ≡ lifted x → (u ≡ 0 → ⊥) → Lifts x u
unfolding lifted
lifted_some x u =
    by_case (λ t. abscissa_legal x ≡ t → u ≡ pick t (abscissa x) 0 → (u ≡ 0 → ⊥) → Lifts x u) (abscissa_legal x)
    (λ _ e h n. let l = legal_abscissa x e in record { legal = e; is = sym h; small = omega (arith, l.1) }) (λ _ _ h n. absurd (n h)) refl

-- ---- the frame

module _ (f l : ℤ) (n : ℕ) where
  pub first_outside : lifted f ≡ 0 → None ≡ framed f l n
  unfolding framed frame_legal
  first_outside e = rw (lifted_zero f e) refl

  pub last_outside : {u : ℕ} → Lifts f u → lifted l ≡ 0 → None ≡ framed f l n
  unfolding framed frame_legal
  last_outside a e = rw (a.legal, lifted_zero l e) refl

  module _ {u v : ℕ} (a : Lifts f u) (b : Lifts l v) where
    pub no_point : n < 1 → None ≡ framed f l n
    unfolding framed frame_legal
    no_point h = rw (a.legal, b.legal, lt-leb 1 n h) refl

    pub too_many : 65536 < n → None ≡ framed f l n
    unfolding framed frame_legal
    too_many h = rw (a.legal, b.legal, le-leb 1 n (omega arith), lt-leb n 65536 h) refl

    unlike : (p q : Bool) → not (beq p q) ≡ true → pick p q (pick q false true) ≡ false
    unlike true true e = no_way e
    unlike true false e = refl
    unlike false true e = refl
    unlike false false e = no_way e

    alike : (p q : Bool) → not (beq p q) ≡ false → pick p q (pick q false true) ≡ true
    alike true true e = refl
    alike true false e = no_way (sym e)
    alike false true e = no_way (sym e)
    alike false false e = refl

    pub ill_matched : 1 ≤ n → n ≤ 65536 → not (beq (eqb n 1) (eqb u v)) ≡ true → None ≡ framed f l n
    unfolding framed frame_legal
    ill_matched h k e = rw (a.legal, b.legal, le-leb 1 n h, le-leb n 65536 k, a.is, b.is, unlike (eqb n 1) (eqb u v) e) refl

    pub legal_frame : 1 ≤ n → n ≤ 65536 → not (beq (eqb n 1) (eqb u v)) ≡ false → Some (record { first = u; last = v; points = n }) ≡ framed f l n
    unfolding framed frame_legal
    legal_frame h k e = rw (a.legal, b.legal, le-leb 1 n h, le-leb n 65536 k, a.is, b.is, alike (eqb n 1) (eqb u v) e) refl

-- ---- the head check, in 64 bits

pub product : (a b : ℕ) → a < 20000000000 → b ≤ 65536 → a * b ≤ 1310720000000000
product a b h k = mul-le-mul {n₁ = a} {m₁ = b} {n₂ = 20000000000} {m₂ = 65536} (omega arith) k

-- the four products of the check
pub record Products (fr : Frame) (h i : ℕ) : Type 0 where
  pub head : h * (fr.points - 1) ≤ 1310720000000000
  pub first : i * fr.first ≤ 1310720000000000
  pub whole : fr.first * (fr.points - 1) ≤ 1310720000000000
  pub last : i * fr.last ≤ 1310720000000000

pub products : {fr : Frame} {h i : ℕ} → Sound fr → h < 20000000000 → i ≤ 65536 → Products fr h i
products {fr} {h} {i} g a b =
    let few = g.few in let f = g.first in let l = g.last in
    record {
      head = product h (fr.points - 1) a (omega arith);
      first = rw (mul_comm i fr.first) (product fr.first i f b);
      whole = product fr.first (fr.points - 1) f (omega arith);
      last = rw (mul_comm i fr.last) (product fr.last i l b);
    }

-- and the unit's
pub unit_product : {fr : Frame} {u : ℕ} → Sound fr → u ≤ 1000 → u * (fr.points - 1) ≤ 65535000
unit_product {fr} {u} g l = let few = g.few in mul-le-mul {n₁ = u} {m₁ = fr.points - 1} {n₂ = 1000} {m₂ = 65535} l (omega arith)

-- the ways of the check: one point; several, within half a spacing; and not
module _ (fr : Frame) (h u i : ℕ) where
  pub alone : fr.points ≡ 1 → eqb h fr.first ≡ passes fr.first fr.last fr.points h u i
  unfolding passes
  alone e = rw (eq-eqb fr.points 1 e) refl

  module _ (e : fr.points ≡ 1 → ⊥) where
    abbrev off : ℕ
    off = twice_off fr.first fr.last fr.points h i

    pub near : off < apart fr.last fr.first → true ≡ passes fr.first fr.last fr.points h u i
    unfolding passes
    near l = rw (ne_eqb fr.points 1 e, lt-ltb off (apart fr.last fr.first) l) refl

    pub coarse : apart fr.last fr.first ≤ off → leb off (u * (fr.points - 1)) ≡ passes fr.first fr.last fr.points h u i
    unfolding passes
    coarse l = rw (ne_eqb fr.points 1 e, le-ltb off (apart fr.last fr.first) l) refl
