-- `table_text::digits::put_number` meets its contract: a number with n further digits, its first digit written as `base` plus the digit.
use native.Mathlib.Omega.{arith}
use Rattle.table_text.specs.DigitLaws.{further_le}
use Rattle.table_text.proofs.NumberSteps.{number_put}
use mathlib.Core.Path.{refl}
use Rattle.table_text.proofs.digits.put_number.Goals as goal

pub overflow_add-result : goal.overflow_add-result
overflow_add-result c = let a = c.args in omega
    (arith, c.requires.1, c.requires.3, further_le 9 a.v)

pub returns : goal.returns
returns c = let d = c.put_digits-d.ensures in number_put _ _ _ _
    c.requires.1 d.2 c.put.ensures _ _ refl d.0
