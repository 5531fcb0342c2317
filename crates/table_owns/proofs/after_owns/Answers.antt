-- `table_owns::after_owns` meets its contract: the state after a run.
use mathlib.Core.Path.{refl}
use borrow.Author.Tests.{eq-eqb, ne_eqb}
use Rattle.table_owns.proofs.after_owns.Goals as goal

pub returns-then-k-c : goal.returns-then-k-c
returns-then-k-c c = rw (eq-eqb _ _ c.if-k-c.true) refl

pub returns : goal.returns
returns c = rw (ne_eqb _ _ c.if-k-c.false) refl
