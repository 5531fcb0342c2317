-- The magnitude of a sum of numbers with a sign, and which magnitudes 64 bits hold. No place of the code is named here. Assumes nothing.
use mathlib.Core.Path.{◌≡◌, refl}
use mathlib.Core.Bool.{Bool, true, false}
use Prim.Native.Nat.{ℕ, suc, ◌+◌, ◌-◌, ◌≤◌, ◌<◌}
use native.Mathlib.Omega.{arith}
use lib.Dec.{ltb}
use lib.IntN.{ℤ, pos, negsuc, nat_abs, sub_ℕ, ◌+ℤ◌}
use mir.Syntax.{w64}
use mir.Val.{SFits}
use borrow.Author.Tests.{ltb-true, ltb-false}

-- ---- of a sum

size_sub_case : (a b : ℕ) (q : Bool) → ltb a b ≡ q → nat_abs (sub_ℕ a b) ≤ a + b
size_sub_case a b true e = rw e (omega (arith, ltb-true a b e))
size_sub_case a b false e = rw e (omega (arith, ltb-false a b e))

size_sub : (a b : ℕ) → nat_abs (sub_ℕ a b) ≤ a + b
size_sub a b = size_sub_case a b (ltb a b) refl

pub size_add : (a b : ℤ) → nat_abs (a +ℤ b) ≤ nat_abs a + nat_abs b
size_add (pos a) (pos b) = omega arith
size_add (pos a) (negsuc b) = size_sub a (suc b)
size_add (negsuc a) (pos b) = omega (arith, size_sub b (suc a))
size_add (negsuc a) (negsuc b) = omega arith

pub size_fits : (z : ℤ) → nat_abs z < 9223372036854775808 → SFits w64 z
size_fits (pos n) h = record { sfits = h }
size_fits (negsuc n) h = record { sfits = omega (arith, h) }
