-- Factors, and quotients and their signs. No place of the code is named here. Assumes nothing.
use mathlib.Core.Path.{◌≡◌, refl}
use mathlib.Core.Bool.{Bool, true, false}
use Prim.Native.Nat.{ℕ, zero, suc, ◌-◌, ◌≤◌}
use native.Mathlib.Omega.{arith}
use lib.Dec.{ltb, leb}
use lib.IntN.{pos, ◌-ℤ◌}
use mir.Syntax.{w64}
use mir.Val.{SFits, to_z}
use mir.Facts.{to_z_pos}
use borrow.Author.Tests.{lt-ltb, leb-true}
use Rattle.terms.specs.Logic.{pick, by_case}
use Rattle.table_spec.specs.Frame.{largest_abscissa}
use Rattle.decimal_spec.specs.Quotient.{rounded_of, nearest}
use Rattle.file_spec.specs.Figures.{exceeding, whole}
use Rattle.file_spec.specs.declared.Decimal.{Decimal}
use Rattle.figure.specs.Bounds.{RoundedIn}
use Rattle.std.specs.Prelude.{Some, None}
use Rattle.decimal_spec.specs.Parts.{whole_with}

-- ---- factors

pub exceeds_not : (d : Decimal) → d.minus ≡ true → None ≡ exceeding (Some d)
unfolding exceeding
exceeds_not d e = rw e refl

pub exceeds_zero : (d : Decimal) → d.minus ≡ false → d.mantissa ≡ 0 → None ≡ exceeding (Some d)
unfolding exceeding
exceeds_zero d e f = rw (e, f) refl

pub exceeds : (d : Decimal) → d.minus ≡ false → (d.mantissa ≡ 0 → ⊥) → Some d ≡ exceeding (Some d)
unfolding exceeding
exceeds d e n = rw (e, lt-ltb 0 d.mantissa (omega (arith, n))) refl

-- ---- quotients

pub rounded_in : (limit : ℕ) (minus : Bool) (a b : ℕ) → limit ≤ largest_abscissa → RoundedIn (rounded_of limit minus a b)
unfolding rounded_of
rounded_in limit minus a b l =
    let q = nearest minus a b in
    by_case (λ t. leb q limit ≡ t → RoundedIn (pick t (Some (whole_with (pick minus (ltb 0 q) false) q)) None)) (leb q limit)
    (λ _ e. let x = leb-true q limit e in omega arith) (λ _ e. tt) refl

-- a size with its sign, in 64 bits
pub wide : (u : ℕ) → u ≤ largest_abscissa → to_z w64 u ≡ pos u
wide u h = to_z_pos w64 {n = u} (omega arith)

pub minus_is : (u : ℕ) → pos 0 -ℤ pos u ≡ whole true u
minus_is zero = refl
minus_is (suc n) = let e : suc n - 1 ≡ n = omega arith in rw (lt-ltb 0 (suc n) (omega arith), e) refl

pub minus_fits : (u : ℕ) → u ≤ largest_abscissa → SFits w64 (whole true u)
minus_fits zero h = record { sfits = omega arith }
minus_fits (suc n) h = record { sfits = omega arith }
