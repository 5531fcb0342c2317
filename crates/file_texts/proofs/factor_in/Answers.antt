-- `file_texts::factor_in` meets its contract: the decimal, if it exceeds zero.
use mathlib.Core.Path.{ap, ◌∙◌}
use Rattle.file_spec.specs.Figures.{exceeding}
use Rattle.file_texts.proofs.factor_in.Goals as goal

pub returns : goal.returns
returns c = (c.exceed.ensures.0 ∙ ap exceeding c.decimal_in.ensures.0, c.exceed.ensures.1)
