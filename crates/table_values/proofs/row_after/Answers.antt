-- `table_values::row_after` meets its contract: the state after a line, from the last one within it; the next line stands at the place.
use mathlib.Core.Path.{refl}
use Rattle.table_values.proofs.row_after.Goals as goal

pub returns : goal.returns
returns c = rw c.in_dif-dif.ensures refl
