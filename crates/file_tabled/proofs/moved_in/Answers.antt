-- `file_tabled::moved_in` meets its contract: 1 and 2 stand at 0, any other is counted in the file.
use mathlib.Core.Path.{refl}
use borrow.Author.Tests.{le-leb, lt-leb}
use Rattle.file_tabled.proofs.moved_in.Goals as goal

pub returns-then-number-le2 : goal.returns-then-number-le2
returns-then-number-le2 c = rw (le-leb _ 2 c.if-number-le2.true) refl

pub returns : goal.returns
returns c = rw (lt-leb _ 2 c.if-number-le2.false) refl
