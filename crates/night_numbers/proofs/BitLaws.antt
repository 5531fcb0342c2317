-- Numbers with a sign there and back in 64 bits, and a walk. No place of the code is named here. Assumes nothing.
use mathlib.Core.Path.{◌≡◌, refl, sym, ap, ◌∙◌}
use Prim.Native.Nat.{ℕ, ◌-◌, ◌≤◌, ◌<◌}
use native.Mathlib.Omega.{arith}
use lib.IntN.{ℤ, pos, negsuc}
use mir.Syntax.{w64}
use mir.Val.{SFits}
use borrow.Author.Tests.{lt-ltb, le-ltb}
use Rattle.night_spec.specs.declared.Progress.{Progress}
use Rattle.host_numbers.specs.Numbers.{bits}
use Rattle.night_numbers.specs.Numbers.{number_of, numbers_of, progress_of}

number_low : (u : ℕ) → u < 9223372036854775808 → pos u ≡ number_of u
number_low u h = rw (lt-ltb u 9223372036854775808 h) refl

number_high : (u : ℕ) → 9223372036854775808 ≤ u → negsuc (18446744073709551615 - u) ≡ number_of u
number_high u h = rw (le-ltb u 9223372036854775808 h) refl

-- by cases: the library's `to_z-of_z` does not close it, since the two forms of a negative number are not equal by computing
number_bits : (x : ℤ) → SFits w64 x → number_of (bits x) ≡ x
number_bits (pos n) h = sym (number_low n h.sfits)
number_bits (negsuc n) h =
    let k = h.sfits in let z : 18446744073709551615 - (18446744073709551615 - n) ≡ n = omega arith in
    sym (number_high (18446744073709551615 - n) (omega arith)) ∙ ap negsuc z

-- a walk whose sum 64 bits hold is kept whole: what a host hands back is what it was told
pub kept_whole : (p : Progress) → SFits w64 p.totals.sum → progress_of (numbers_of p) ≡ p
kept_whole p h = rw (number_bits p.totals.sum h) refl
