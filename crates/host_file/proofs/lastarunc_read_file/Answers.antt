-- `host_file::lastarunc_read_file` meets its contract: the answer has the numbers of what `read_file` says.
use Rattle.host_file.proofs.Tellings.{told_file_lem}
use Rattle.host_file.proofs.lastarunc_read_file.Goals as goal

pub returns : goal.returns
returns c = told_file_lem c.read_file-read.ensures c.tell_file.ensures
