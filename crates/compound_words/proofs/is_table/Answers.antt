-- `compound_words::is_table` meets its contract: by the name.
use Rattle.label_spec.specs.Names.{norm, ignored, blank, upper}
use Rattle.compound_words.proofs.is_table.Goals as goal

pub returns : goal.returns
unfolding norm ignored blank upper
returns c = c.is_word.ensures
