-- `table_numbers::further` meets its contract: how many digits may follow a pseudo-digit.
use Rattle.table_numbers.proofs.NumberLaws.{further_dup, further_none, further_nine}
use Rattle.table_numbers.proofs.further.Goals as goal

pub returns-then-e-lt-DIF : goal.returns-then-e-lt-DIF
returns-then-e-lt-DIF c = further_dup _ c.if-e-lt-DIF.true

pub returns-then-e-eq0 : goal.returns-then-e-eq0
returns-then-e-eq0 c = further_none _ c.if-e-lt-DIF.false c.if-e-eq0.true

pub returns : goal.returns
returns c = further_nine _ c.if-e-lt-DIF.false c.if-e-eq0.false
