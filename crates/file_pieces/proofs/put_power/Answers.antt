-- `file_pieces::put_power` meets its contract: `+` from the origin on, `-` below it.
use Rattle.file_pieces.proofs.Steps.{power_up, power_down}
use Rattle.file_pieces.proofs.put_power.Goals as goal

pub returns-then-p-ge-ORIGIN : goal.returns-then-p-ge-ORIGIN
returns-then-p-ge-ORIGIN c = power_up _ c.put.ensures c.if-p-ge-ORIGIN.true c.put_two.ensures

pub returns-else-p-ge-ORIGIN : goal.returns-else-p-ge-ORIGIN
returns-else-p-ge-ORIGIN c = power_down _ c.put.ensures c.if-p-ge-ORIGIN.false c.put_two-else-p-ge-ORIGIN.ensures
