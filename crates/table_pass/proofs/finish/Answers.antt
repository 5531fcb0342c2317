-- `table_pass::finish` meets its contract: 12 before 13.
use mathlib.Core.Path.{refl}
use borrow.Author.Tests.{lt-ltb, le-ltb}
use Rattle.table_pass.proofs.finish.Goals as goal

pub returns-then-k-points : goal.returns-then-k-points
returns-then-k-points c = let a = c.args in rw (c.of.ensures, lt-ltb a.k a.points c.if-k-points.true) refl

pub returns-then-dif : goal.returns-then-dif
returns-then-dif c = let a = c.args in rw (c.of-then-dif.ensures, le-ltb a.k a.points c.if-k-points.false, c.if-dif.true) refl

pub returns : goal.returns
returns c = let a = c.args in rw (le-ltb a.k a.points c.if-k-points.false, c.if-dif.false) refl
