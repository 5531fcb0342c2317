-- `table_text::digits::further_digits` meets its contract: how many digits follow the first one of a number.
use Prim.Native.Nat.{◌-◌}
use native.Mathlib.Omega.{arith}
use Rattle.table_text.specs.DigitLaws.{count_more, count_four, count_end}
use Rattle.table_text.proofs.digits.further_digits.Goals as goal

pub returns-then-v-lt10000 : goal.returns-then-v-lt10000
returns-then-v-lt10000 c = let n = c.small_further.ensures in (n.0, omega (arith, n.1))

pub loop-limit-init : goal.loop-limit-init
loop-limit-init c = count_four _ c.requires (omega (arith, c.if-v-lt10000.false))

pub overflow_mul-limit : goal.overflow_mul-limit
overflow_mul-limit c = omega (arith, c.requires, c.loop-limit-test.true)

pub overflow_add-n : goal.overflow_add-n
overflow_add-n c = omega (arith, c.loop-limit.invariant.few)

pub loop-limit-smaller : goal.loop-limit-smaller
loop-limit-smaller c = omega (arith, c.loop-limit.invariant.few)

pub loop-limit-preserved : goal.loop-limit-preserved
loop-limit-preserved c = count_more _ _ _ c.requires c.loop-limit.invariant c.loop-limit-test.true

pub returns : goal.returns
returns c = count_end _ _ _ c.loop-limit.invariant c.loop-limit-test.false
