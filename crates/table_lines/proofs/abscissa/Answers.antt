-- `table_lines::abscissa` meets its contract: a head of so many thousandths, with its unit.
use mathlib.Core.Path.{refl}
use Rattle.table_lines.proofs.abscissa.Goals as goal

pub returns-then-minus : goal.returns-then-minus
returns-then-minus c = rw c.if-minus.true refl

pub returns : goal.returns
returns c = rw c.if-minus.false refl
