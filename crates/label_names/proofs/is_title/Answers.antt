-- `label_names::is_title` meets its contract: TITLE is its own name as it is compared.
use Rattle.label_spec.specs.Names.{norm, ignored, blank, upper}
use Rattle.label_spec.specs.Names.{TITLE}
use Rattle.label_names.proofs.is_title.Goals as goal

pub returns : goal.returns
unfolding norm ignored blank upper TITLE
returns c = c.is_word.ensures
