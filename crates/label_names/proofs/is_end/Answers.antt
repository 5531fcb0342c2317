-- `label_names::is_end` meets its contract: END is its own name as it is compared.
use Rattle.label_spec.specs.Names.{norm, ignored, blank, upper}
use Rattle.label_spec.specs.Names.{END}
use Rattle.label_names.proofs.is_end.Goals as goal

pub returns : goal.returns
unfolding norm ignored blank upper END
returns c = c.is_word.ensures
