-- `table_lengths::next_line` meets its contract: by CR LF after 80 bytes, or by the last LF.
use mathlib.Core.Path.{sym, ◌∙◌}
use native.Mathlib.Omega.{arith}
use Rattle.table_lengths.proofs.LengthLaws.{next_after, next_by}
use Rattle.table_lengths.proofs.next_line.Goals as goal

pub returns-then-ends_at_80 : goal.returns-then-ends_at_80
returns-then-ends_at_80 c = next_after _ _ c.requires _ (sym c.ends_at_80.ensures ∙ c.if-ends_at_80.true) (omega arith)

pub returns-else-ends_at_80 : goal.returns-else-ends_at_80
returns-else-ends_at_80 c = next_by _ _ c.requires _ c.past_last_lf.ensures (sym c.ends_at_80.ensures ∙ c.if-ends_at_80.false)
