-- `plain_rows::checked` meets its contract: 6, the fault of the rest, or the state after the line.
use mathlib.Core.Path.{refl}
use Rattle.plain_rows.proofs.checked.Goals as goal

pub returns-then-not-passes : goal.returns-then-not-passes
returns-then-not-passes c = rw (c.in-Ok.is, c.if-not-passes.true, c.of.ensures) refl

pub returns-in-Err : goal.returns-in-Err
returns-in-Err c = rw c.in-Err.is c.refused.ensures

pub returns-else-not-passes : goal.returns-else-not-passes
returns-else-not-passes c = rw (c.in-Ok.is, c.if-not-passes.false, c.is_dif.ensures) refl
