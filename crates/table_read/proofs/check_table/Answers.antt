-- `table_read::check_table` meets its contract: 1, 2, and then what the body says.
use mathlib.Core.Path.{sym, ap, ◌∙◌}
use mir.Facts.{to_z-of_z}
use Rattle.frame.specs.FrameLaws.{framed_outside, framed_legal}
use Rattle.table_read.specs.Answers.{told_first}
use Rattle.table_read.proofs.AnswerLaws.{body_long, frame_outside, no_room, body_read}
use Rattle.table_read.proofs.check_table.Goals as goal

pub returns-then-body-gt-LONGEST_BODY : goal.returns-then-body-gt-LONGEST_BODY
returns-then-body-gt-LONGEST_BODY c = rw c.of.ensures (sym (ap told_first (body_long _ _ _ _ _ c.if-body-gt-LONGEST_BODY.true)))

pub returns-then-room-points : goal.returns-then-room-points
returns-then-room-points c =
    let z = rw (to_z-of_z c.ranges.first, to_z-of_z c.ranges.last) at (sym c.new.ensures ∙ c.in-Some.is) in
    rw c.of-then-room-points.ensures (sym (ap told_first (no_room _ _ _ _ _ c.if-body-gt-LONGEST_BODY.false (framed_legal _ _ _ z) c.if-room-points.true)))

pub check_body-requires : goal.check_body-requires
check_body-requires c =
    let z = rw (to_z-of_z c.ranges.first, to_z-of_z c.ranges.last) at (sym c.new.ensures ∙ c.in-Some.is) in (framed_legal _ _ _ z).sound

pub returns-in-None : goal.returns-in-None
returns-in-None c =
    let z = rw (to_z-of_z c.ranges.first, to_z-of_z c.ranges.last) at (sym c.new.ensures ∙ c.in-None.is) in
    rw c.of-in-None.ensures (sym (ap told_first (frame_outside _ _ _ _ _ (framed_outside _ _ _ z))))

pub returns-else-room-points : goal.returns-else-room-points
returns-else-room-points c =
    let z = rw (to_z-of_z c.ranges.first, to_z-of_z c.ranges.last) at (sym c.new.ensures ∙ c.in-Some.is) in
    c.check_body.ensures ∙ sym (ap told_first (body_read _ _ _ _ _ c.if-body-gt-LONGEST_BODY.false (framed_legal _ _ _ z) c.if-room-points.false))
