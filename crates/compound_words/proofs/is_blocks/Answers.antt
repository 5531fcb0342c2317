-- `compound_words::is_blocks` meets its contract: by the name.
use Rattle.label_spec.specs.Names.{norm, ignored, blank, upper}
use Rattle.compound_spec.specs.Blocks.{BLOCKS}
use Rattle.compound_words.proofs.is_blocks.Goals as goal

pub returns : goal.returns
unfolding norm ignored blank upper BLOCKS
returns c = c.is_word.ensures
