-- `host_blocks::lastarunc_find_blocks` meets its contract: the answer has the numbers of what `find_blocks` says.
use Rattle.host_blocks.proofs.Tellings.{told_blocks_lem}
use Rattle.host_blocks.proofs.lastarunc_find_blocks.Goals as goal

pub returns : goal.returns
returns c = told_blocks_lem c.find_blocks-found.ensures c.tell_blocks.ensures
