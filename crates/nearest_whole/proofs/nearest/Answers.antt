-- `nearest` meets its contract: the nearest number by quotient and remainder; the laws are of Rests. Assumes nothing.
use native.Mathlib.Omega.{arith}
use native.Mathlib.Nat.{mod-lt, div-le_self}
use Rattle.nearest_whole.proofs.Rests.{past_half, before_half, half_up, half_down}
use borrow.Author.Rules.{rules}
use Rattle.nearest_whole.proofs.nearest.Goals as goal

pub overflow_mul-twice : goal.overflow_mul-twice
overflow_mul-twice c = omega (arith, mod-lt c.args.a c.requires.0)

pub overflow_add-more : goal.overflow_add-more
overflow_add-more c = omega (arith, div-le_self c.args.a c.args.b)

pub returns-then-twice-b : goal.returns-then-twice-b
returns-then-twice-b c = past_half _ _ (search rules) _ c.if-twice-b.true

pub returns-then-twice-b-2 : goal.returns-then-twice-b-2
returns-then-twice-b-2 c = before_half _ _ (search rules) _ c.if-twice-b-2.true

pub returns-then-minus : goal.returns-then-minus
returns-then-minus c = rw c.if-minus.true (half_down _ _ c.requires.0 (omega arith))

pub returns-else-minus : goal.returns-else-minus
returns-else-minus c = rw c.if-minus.false (half_up _ _ c.requires.0 (omega arith))
