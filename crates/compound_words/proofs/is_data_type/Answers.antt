-- `compound_words::is_data_type` meets its contract: by the name.
use Rattle.label_spec.specs.Names.{norm, ignored, blank, upper}
use Rattle.compound_spec.specs.Blocks.{DATATYPE}
use Rattle.compound_words.proofs.is_data_type.Goals as goal

pub returns : goal.returns
unfolding norm ignored blank upper DATATYPE
returns c = c.is_word.ensures
