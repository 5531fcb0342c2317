-- `table_text::digits::put_digits` meets its contract: the n further digits of v from the right; its first digit, which is what is left.
use native.Mathlib.Omega.{arith}
use mathlib.Core.Path.{refl}
use lib.ListN.{length-set}
use Rattle.table_text.specs.DigitLaws.{digits_start, digits_more, digits_end, further_le}
use Rattle.table_text.proofs.digits.put_digits.Goals as goal

pub loop-i-init : goal.loop-i-init
loop-i-init c = digits_start _ _ _ _ c.requires.1 c.requires.0

pub overflow_add-at : goal.overflow_add-at
overflow_add-at c = let a = c.args in let few = c.loop-i.invariant.few in omega (arith, c.requires.0, c.requires.2, further_le 9 a.v)

pub loop-i-preserved : goal.loop-i-preserved
loop-i-preserved c = let e = c.put.ensures in digits_more _ _ _ _ c.loop-i.invariant c.loop-i-test.true (rw e (simp length-set refl)) e

pub returns : goal.returns
returns c = digits_end _ _ _ c.requires.0 c.loop-i.invariant c.loop-i-test.false
