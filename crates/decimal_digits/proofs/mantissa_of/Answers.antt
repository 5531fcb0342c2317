-- `mantissa_of` meets its contract: the limits of the digits, test by test. Assumes nothing.
use Rattle.decimal_digits.proofs.Reading.{no_digits, too_large, digits_are}
use Rattle.decimal_digits.proofs.mantissa_of.Goals as goal

pub returns-then-n-eq0 : goal.returns-then-n-eq0
returns-then-n-eq0 c = no_digits _ _ _ _ c.if-n-eq0.true

pub returns-then-v-ge-BOUND : goal.returns-then-v-ge-BOUND
returns-then-v-ge-BOUND c = too_large _ _ _ _ c.if-n-eq0.false c.if-v-ge-BOUND.true

pub returns : goal.returns
returns c = digits_are _ _ _ _ c.if-n-eq0.false c.if-v-ge-BOUND.false
