-- `label_lines::next_mark` meets its contract: the lines passed have no `##` first.
use mathlib.Core.Path.{sym, ◌∙◌}
use Rattle.label_lines.proofs.LineTurns.{mark_over, mark_none, mark_here, mark_on}
use Rattle.label_lines.proofs.next_mark.Goals as goal
use Rattle.label_lines.proofs.next_mark.Goals.{then-k-s-via-then-k-s, then-k-s-via-else-k-s+then-is_hashed}

pub returns-then-end-s : goal.returns-then-end-s
returns-then-end-s c = mark_over _ _ _ _ c.loop-at.invariant c.line_end-end.ensures c.if-end-s.true

pub returns-then-k-s : goal.returns-then-k-s
returns-then-k-s c =
    let over = mark_none _ _ _ _ c.loop-at.invariant c.line_end-end.ensures c.if-end-s.false _ c.past_blanks-k.ensures in
    let here = mark_here _ _ _ _ c.loop-at.invariant c.line_end-end.ensures c.if-end-s.false _ c.past_blanks-k.ensures in
    elim c.then-k-s.branch [ then-k-s-via-then-k-s w ↦ over w.if-k-s.true | then-k-s-via-else-k-s+then-is_hashed w ↦ here (sym w.is_hashed.ensures ∙ w.if-is_hashed.true) ]

pub loop-at-preserved : goal.loop-at-preserved
loop-at-preserved c =
    mark_on _ _ _ _ c.loop-at.invariant c.line_end-end.ensures c.if-end-s.false _ c.past_blanks-k.ensures
    c.if-k-s.false (sym c.is_hashed.ensures ∙ c.if-is_hashed.false)
