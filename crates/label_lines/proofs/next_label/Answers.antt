-- `label_lines::next_label` meets its contract: the next `##`, and the label there.
use Rattle.label_lines.proofs.LineTurns.{next_none, next_here}
use Rattle.label_lines.proofs.next_label.Goals as goal

pub returns-then-mark-s : goal.returns-then-mark-s
returns-then-mark-s c = next_none _ _ _ c.next_mark-mark.ensures c.if-mark-s.true

pub label_here-requires : goal.label_here-requires
label_here-requires c = c.next_mark-mark.ensures.stops c.if-mark-s.false

pub returns : goal.returns
returns c = next_here _ _ _ c.next_mark-mark.ensures _ c.label_here.ensures
