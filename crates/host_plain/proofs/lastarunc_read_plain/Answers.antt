-- `host_plain::lastarunc_read_plain` meets its contract: the answer has the numbers of what the plain engine says.
use mir.Facts.{to_z-of_z}
use Rattle.host_table.proofs.Tellings.{told_table}
use Rattle.host_plain.proofs.lastarunc_read_plain.Goals as goal

pub returns : goal.returns
returns c =
    told_table (rw (to_z-of_z c.ranges.first, to_z-of_z c.ranges.last) at c.read_plain-read.ensures) c.tell_table.ensures
