-- `table_steps::apart` meets its contract: how far apart two ordinates are.
use mathlib.Core.Path.{refl}
use borrow.Author.Tests.{lt-ltb, le-ltb}
use Rattle.table_steps.proofs.apart.Goals as goal

pub returns-then-q-p : goal.returns-then-q-p
returns-then-q-p c = rw (lt-ltb _ _ c.if-q-p.true) refl

pub returns : goal.returns
returns c = rw (le-ltb _ _ c.if-q-p.false) refl
