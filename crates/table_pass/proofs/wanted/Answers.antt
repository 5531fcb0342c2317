-- `table_pass::wanted` meets its contract: one case a form.
use mathlib.Core.Path.{refl}
use Rattle.table_pass.proofs.wanted.Goals as goal

pub returns-then-dif : goal.returns-then-dif
returns-then-dif c = rw c.if-dif.true refl

pub returns : goal.returns
returns c = rw c.if-dif.false refl
