-- `text_forms::length_of` meets its contract: the forms in full by `text_values`, DIFDUP by `text_length`.
use mathlib.Core.Path.{sym, ◌∙◌}
use Rattle.text_forms.proofs.FormSteps.{only_difdup}
use Rattle.text_forms.proofs.length_of.Goals as goal

pub returns : goal.returns
returns c =
    rw (only_difdup c.args.style (sym c.is_full.ensures ∙ c.if-is_full.false)) at c.measure-2.ensures
