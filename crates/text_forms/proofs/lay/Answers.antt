-- `text_forms::lay` meets its contract: the forms in full by `text_values`, DIFDUP by `pass`.
use mathlib.Core.Path.{sym, ◌∙◌}
use Rattle.text_forms.proofs.FormSteps.{only_difdup}
use Rattle.text_forms.proofs.lay.Goals as goal

pub returns : goal.returns
returns c =
    rw (only_difdup c.args.style (sym c.is_full.ensures ∙ c.if-is_full.false)) at c.pass.ensures
