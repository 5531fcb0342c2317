-- `table_pass::index_of` meets its contract: on a check line the point before, and the first has none.
use mathlib.Core.Path.{refl}
use Rattle.table_pass.proofs.index_of.Goals as goal

pub returns-then-not-dif : goal.returns-then-not-dif
returns-then-not-dif c = rw (c.if-not-dif.true) refl

pub returns-then-k-eq0 : goal.returns-then-k-eq0
returns-then-k-eq0 c = rw (c.if-not-dif.false, c.if-k-eq0.true) refl

pub returns : goal.returns
returns c = rw (c.if-not-dif.false) refl
