-- `host_blocks::lastarunc_read_block` meets its contract: the answer has the numbers of what `read_block` says.
use Rattle.host_blocks.proofs.Tellings.{told_block_lem}
use Rattle.host_blocks.proofs.lastarunc_read_block.Goals as goal

pub returns : goal.returns
returns c = told_block_lem c.read_block-read.ensures c.tell_block.ensures
