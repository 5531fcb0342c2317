-- `table_text::digits::small_further` meets its contract: three comparisons count the digits of a number of at most four.
use mathlib.Core.Path.{◌∙◌}
use Rattle.table_text.proofs.SmallSteps.{bit_is, further_sum}
use Rattle.table_text.proofs.digits.small_further.Goals as goal

pub returns : goal.returns
returns c = further_sum _ _ _ _ c.requires (c.from.ensures ∙ bit_is _) (c.from-2.ensures ∙ bit_is _) (c.from-3.ensures ∙ bit_is _)
