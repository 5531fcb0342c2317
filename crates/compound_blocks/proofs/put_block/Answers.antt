-- `compound_blocks::put_block` meets its contract: the four numbers stand where four entries stood.
use Rattle.compound_blocks.proofs.PassTurns.{four}
use Rattle.compound_blocks.proofs.put_block.Goals as goal

pub returns : goal.returns
returns c = four _ _ _ _ _ _ c.requires _ c.copy_from_slice.ensures.after
