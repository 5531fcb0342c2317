-- `host_blocks::lastarunc_find_in_block` meets its contract: the answer has the numbers of what `find_in_block` says.
use Rattle.host_blocks.proofs.Tellings.{told_block_record}
use Rattle.host_blocks.proofs.lastarunc_find_in_block.Goals as goal

pub returns : goal.returns
returns c = told_block_record c.find_in_block-found.ensures.0 c.tell_record.ensures
