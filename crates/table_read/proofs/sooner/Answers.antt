-- `table_read::sooner` meets its contract: case by case as `sooner_of` has it.
use mathlib.Core.Path.{refl}
use borrow.Author.Tests.{lt-ltb, le-ltb}
use Rattle.table_read.proofs.sooner.Goals as goal

pub returns-then-f-a : goal.returns-then-f-a
returns-then-f-a c =
    rw (c.in-Some.is, c.in-Err.is, lt-ltb _ _ c.if-f-a.true) refl

pub returns-in-Ok : goal.returns-in-Ok
returns-in-Ok c = rw (c.of.ensures, c.in-Some.is, c.in-Ok.is) refl

pub returns-else-f-a : goal.returns-else-f-a
returns-else-f-a c =
    rw (c.of-in-Err.ensures, c.in-Some.is, c.in-Err.is, le-ltb _ _ c.if-f-a.false) refl
