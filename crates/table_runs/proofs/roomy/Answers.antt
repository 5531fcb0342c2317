-- `table_runs::roomy` meets its contract: may a run begin here?
use native.Mathlib.Omega.{arith}
use borrow.Author.Tests.{leb-true}
use Rattle.terms.specs.Logic.{no_way}
use Rattle.table_runs.proofs.roomy.Goals as goal

pub returns-then-s-c-lt-ROOM : goal.returns-then-s-c-lt-ROOM
returns-then-s-c-lt-ROOM c = λ e. no_way e

pub returns-then-c-lt-FAR : goal.returns-then-c-lt-FAR
returns-then-c-lt-FAR c = λ e. no_way e

pub returns : goal.returns
returns c = λ e. let h = c.if-s-c-lt-ROOM.false in (omega arith, c.if-c-lt-FAR.false, leb-true _ _ e)
