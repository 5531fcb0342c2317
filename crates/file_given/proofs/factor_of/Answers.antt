-- `file_given::factor_of` meets its contract: the decimal, if it exceeds zero.
use mathlib.Core.Path.{ap, ◌∙◌}
use Rattle.file_spec.specs.Figures.{exceeding}
use Rattle.file_given.proofs.factor_of.Goals as goal

pub returns : goal.returns
returns c = (c.exceed.ensures.0 ∙ ap exceeding c.decimal_of.ensures.0, c.exceed.ensures.1)
