-- `plain_rows::refused` meets its contract: the fault, or 6 if the head does not pass.
use mathlib.Core.Path.{refl}
use Rattle.plain_rows.proofs.refused.Goals as goal

pub returns-then-passes : goal.returns-then-passes
returns-then-passes c = rw c.if-passes.true refl

pub returns : goal.returns
returns c = rw (c.if-passes.false, c.of.ensures) refl
