-- The rounded quotient is there and is one: what the inequalities admit is what is computed.
use Rattle.std.specs.Prelude.{◌≡◌, refl, Bool, true, false, ℕ, ◌+◌, ◌-◌, ◌*◌, ◌≤◌, ◌<◌, ltb, leb, Option, Some, None}
use Rattle.std.proofs.Common.{sym, ◌∙◌, arith, mod-lt, le-leb, leb-true, leb-false, eq-eqb, eqb-true}
use Rattle.std.proofs.Math.Nat.{lt_of_mul-lt-mul_left, div-add-mod}
use Rattle.std.proofs.lemmas.Bool.{lt-leb}
use Rattle.terms.specs.Logic.{pick, no_way}
use Rattle.decimal_spec.specs.declared.Quotient.{Quotient}
use Rattle.decimal_spec.specs.Quotient.{Reaches, Covers, Nearest, IsRounded, nearest, rounded_of, Exact, IsQuotient, exact_of, quotient_of}
use Rattle.decimal_spec.specs.declared.Whole.{Whole}
use Rattle.decimal_spec.specs.Parts.{whole_with}

-- what reaches is at most what covers
pub reaches_le : (minus : Bool) (a b q r : ℕ) → 0 < b → Reaches minus a b q → Covers minus a b r → q ≤ r
reaches_le false a b q r h x y = let z : b * q < b * (r + 1) = omega arith in omega (arith, lt_of_mul-lt-mul_left b z)
reaches_le true a b q r h x y = let z : b * q < b * (r + 1) = omega arith in omega (arith, lt_of_mul-lt-mul_left b z)

-- one number at most is nearest
pub nearest_unique : (minus : Bool) (a b q r : ℕ) → 0 < b → Nearest minus a b q → Nearest minus a b r → q ≡ r
nearest_unique minus a b q r h x y = omega (arith, reaches_le minus a b q r h x.reaches y.covers, reaches_le minus a b r q h y.reaches x.covers)

-- the computed number is nearest
pub nearest_is : (minus : Bool) (a b : ℕ) → 0 < b → Nearest minus a b (nearest minus a b)
unfolding nearest
nearest_is false a b h =
    let p : 0 < 2 * b = omega arith in
    let e = div-add-mod (2 * a + b) (2 * b) in
    let l = mod-lt (2 * a + b) p in
    record { reaches = omega (arith, e, l); covers = omega (arith, e, l) }
nearest_is true a b h =
    let p : 0 < 2 * b = omega arith in
    let e = div-add-mod (2 * a + b - 1) (2 * b) in
    let l = mod-lt (2 * a + b - 1) p in
    record { reaches = omega (arith, e, l); covers = omega (arith, e, l) }

-- the inequalities determine the answer ..
pub rounded_is : (limit : ℕ) (minus : Bool) (a b : ℕ) (r : Option Whole) → 0 < b → IsRounded limit minus a b r → r ≡ rounded_of limit minus a b
unfolding rounded_of
rounded_is limit minus a b (Some y) h x =
    let e = nearest_unique minus a b y.size (nearest minus a b) h x.0 (nearest_is minus a b h) in
    let l : nearest minus a b ≤ limit = omega (arith, e, x.1) in
    rw (le-leb (nearest minus a b) limit l, ← e, x.2) refl
rounded_is limit minus a b None h x =
    let e = nearest_unique minus a b x.0 (nearest minus a b) h x.1 (nearest_is minus a b h) in
    let k : limit < nearest minus a b = omega (arith, e, x.2) in
    rw (lt-leb (nearest minus a b) limit k) refl

-- .. and admit it
pub rounded_has : (limit : ℕ) (minus : Bool) (a b : ℕ) → 0 < b → IsRounded limit minus a b (rounded_of limit minus a b)
unfolding rounded_of
rounded_has limit minus a b h = cases (leb (nearest minus a b) limit) refl
  where
    cases : (t : Bool) → leb (nearest minus a b) limit ≡ t → IsRounded limit minus a b (pick t (Some (whole_with (pick minus (ltb 0 (nearest minus a b)) false) (nearest minus a b))) None)
    cases true e = (nearest_is minus a b h, leb-true (nearest minus a b) limit e, refl)
    cases false e = (nearest minus a b, nearest_is minus a b h, leb-false (nearest minus a b) limit e)

-- so two answers that the inequalities admit are one
pub rounded_unique : (limit : ℕ) (minus : Bool) (a b : ℕ) (r t : Option Whole) → 0 < b → IsRounded limit minus a b r → IsRounded limit minus a b t → r ≡ t
rounded_unique limit minus a b r t h x y = rounded_is limit minus a b r h x ∙ sym (rounded_is limit minus a b t h y)

-- ---- exactness

-- what is computed is that the quotient times the divisor is the dividend
pub exact_sound : (a b : ℕ) (r : Option Whole) → exact_of a b r ≡ true → Exact a b r
unfolding exact_of
exact_sound a b (Some x) e = eqb-true (b * x.size) a e
exact_sound a b None e = no_way e

pub exact_complete : (a b : ℕ) (r : Option Whole) → Exact a b r → exact_of a b r ≡ true
unfolding exact_of
exact_complete a b (Some x) e = eq-eqb (b * x.size) a e
exact_complete a b None e = absurd e

-- two tests that hold together are one
same_test : (t u : Bool) → (t ≡ true → u ≡ true) → (u ≡ true → t ≡ true) → t ≡ u
same_test true u f g = sym (f refl)
same_test false true f g = g refl
same_test false false f g = refl

-- the answer is determined, exactness too ..
pub quotient_is : (limit : ℕ) (minus : Bool) (a b : ℕ) (x : Quotient) → 0 < b → IsQuotient limit minus a b x → x ≡ quotient_of limit minus a b
unfolding quotient_of
quotient_is limit minus a b x h k =
    let e = rounded_is limit minus a b x.rounded h k.rounds in
    let t = same_test x.exact (exact_of a b x.rounded) (λ z. exact_complete a b x.rounded (k.sound z)) (λ z. k.complete (exact_sound a b x.rounded z)) in
    rw (← e, ← t) refl

-- .. and is there
pub quotient_has : (limit : ℕ) (minus : Bool) (a b : ℕ) → 0 < b → IsQuotient limit minus a b (quotient_of limit minus a b)
unfolding quotient_of
quotient_has limit minus a b h =
    let r = rounded_of limit minus a b in record { rounds = rounded_has limit minus a b h; sound = exact_sound a b r; complete = exact_complete a b r }

-- so two answers of a division are one
pub quotient_unique : (limit : ℕ) (minus : Bool) (a b : ℕ) (x y : Quotient) → 0 < b → IsQuotient limit minus a b x → IsQuotient limit minus a b y → x ≡ y
quotient_unique limit minus a b x y h j k = quotient_is limit minus a b x h j ∙ sym (quotient_is limit minus a b y h k)
