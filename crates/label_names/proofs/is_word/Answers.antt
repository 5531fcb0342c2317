-- `label_names::is_word` meets its contract: a word is the whole of itself.
use mathlib.Core.Path.{◌∙◌, ap}
use Rattle.label_spec.specs.Names.{sames}
use Rattle.label_spec.specs.NameLaws.{whole}
use Rattle.label_names.proofs.is_word.Goals as goal

pub returns : goal.returns
returns c = c.same_name.ensures ∙ ap (sames _) (whole _)
