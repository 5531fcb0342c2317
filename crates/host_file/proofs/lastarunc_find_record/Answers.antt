-- `host_file::lastarunc_find_record` meets its contract: the answer has the numbers of what `find` says.
use Rattle.host_file.proofs.Tellings.{told_record}
use Rattle.host_file.proofs.lastarunc_find_record.Goals as goal

pub returns : goal.returns
returns c = told_record c.find-found.ensures.0 c.tell_record.ensures
