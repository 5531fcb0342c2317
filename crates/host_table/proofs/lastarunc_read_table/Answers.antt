-- `host_table::lastarunc_read_table` meets its contract: the answer has the numbers of what `read_table` says.
use mir.Facts.{to_z-of_z}
use Rattle.host_table.proofs.Tellings.{told_table}
use Rattle.host_table.proofs.lastarunc_read_table.Goals as goal

pub returns : goal.returns
returns c =
    told_table (rw (to_z-of_z c.ranges.first, to_z-of_z c.ranges.last) at c.read_table-read.ensures) c.tell_table.ensures
