-- `plain_read::read_plain` meets its contract: 1, 2, what checking the rows answered with its line and column, or all rows are laid.
-- where the frame is known to be legal
use mathlib.Core.Path.{◌≡◌, sym, ap, ◌∙◌, subst}
use lib.ListN.{length}
use mir.Facts.{to_z-of_z}
use Rattle.terms.specs.Refusals.{fault_at}
use Rattle.table_spec.specs.Reading.{read, read_table, stored}
use Rattle.frame.specs.declared.Frame.{Frame}
use Rattle.frame.specs.FrameLaws.{Framing, framed_outside, framed_legal}
use Rattle.table_pass.specs.Rows.{frame_rules}
use Rattle.table_read.specs.Answers.{told_first, Accepts}
use Rattle.table_read.proofs.AnswerLaws.{body_long, frame_outside, no_room, body_read, read_refused, first_accepts, read_accepted}
use Rattle.plain_read.proofs.read_plain.Goals as goal

pub returns-then-body-gt-LONGEST_BODY : goal.returns-then-body-gt-LONGEST_BODY
returns-then-body-gt-LONGEST_BODY c = read_refused {r = fault_at 1 0} (sym (ap told_first (body_long _ _ _ _ _ c.if-body-gt-LONGEST_BODY.true))) (rw c.number.ensures at c.refusal_in.ensures)

pub returns-then-out-points : goal.returns-then-out-points
returns-then-out-points c =
    let frame : Frame = c.in-Some.fr in
    let framing : let a = c.args in Framing a.first a.last a.points frame = let f = c.ranges in framed_legal _ _ _ (rw (to_z-of_z f.first, to_z-of_z f.last) at (sym c.new.ensures ∙ c.in-Some.is)) in
    read_refused {r = fault_at 2 0} (sym (ap told_first (no_room _ _ _ _ _ c.if-body-gt-LONGEST_BODY.false framing c.if-out-points.true))) (rw c.number-then-out-points.ensures at c.refusal_in-then-out-points.ensures)

pub check_body-requires : goal.check_body-requires
check_body-requires c =
    let frame : Frame = c.in-Some.fr in
    let framing : let a = c.args in Framing a.first a.last a.points frame = let f = c.ranges in framed_legal _ _ _ (rw (to_z-of_z f.first, to_z-of_z f.last) at (sym c.new.ensures ∙ c.in-Some.is)) in
    framing.sound

pub lay_rows-requires : goal.lay_rows-requires
lay_rows-requires c =
    let frame : Frame = c.in-Some.fr in
    let framing : let a = c.args in Framing a.first a.last a.points frame = let f = c.ranges in framed_legal _ _ _ (rw (to_z-of_z f.first, to_z-of_z f.last) at (sym c.new.ensures ∙ c.in-Some.is)) in
    let accepted : Accepts (read (frame_rules frame) c.args.body.now) = first_accepts (read (frame_rules frame) c.args.body.now) (sym c.in-Ok.is ∙ c.check_body.ensures) in
    (framing.sound, accepted)

pub returns-in-None : goal.returns-in-None
returns-in-None c =
    let f = c.ranges in
    let z = rw (to_z-of_z f.first, to_z-of_z f.last) at (sym c.new.ensures ∙ c.in-None.is) in
    read_refused {r = fault_at 1 0} (sym (ap told_first (frame_outside _ _ _ _ _ (framed_outside _ _ _ z)))) (rw c.number-in-None.ensures at c.refusal_in-in-None.ensures)

pub returns-in-Err : goal.returns-in-Err
returns-in-Err c =
    let frame : Frame = c.in-Some.fr in
    let framing : let a = c.args in Framing a.first a.last a.points frame = let f = c.ranges in framed_legal _ _ _ (rw (to_z-of_z f.first, to_z-of_z f.last) at (sym c.new.ensures ∙ c.in-Some.is)) in
    let bodily : let a = c.args in read_table a.first a.last a.points a.body.now (length a.out.now) ≡ read (frame_rules frame) a.body.now = body_read _ _ _ _ _ c.if-body-gt-LONGEST_BODY.false framing c.if-out-points.false in
    read_refused (sym c.in-Err.is ∙ c.check_body.ensures ∙ sym (ap told_first bodily)) c.refusal_in-in-Err.ensures

pub returns-in-Ok : goal.returns-in-Ok
returns-in-Ok c =
    let frame : Frame = c.in-Some.fr in
    let framing : let a = c.args in Framing a.first a.last a.points frame = let f = c.ranges in framed_legal _ _ _ (rw (to_z-of_z f.first, to_z-of_z f.last) at (sym c.new.ensures ∙ c.in-Some.is)) in
    let bodily : let a = c.args in read_table a.first a.last a.points a.body.now (length a.out.now) ≡ read (frame_rules frame) a.body.now = body_read _ _ _ _ _ c.if-body-gt-LONGEST_BODY.false framing c.if-out-points.false in
    let accepted : Accepts (read (frame_rules frame) c.args.body.now) = first_accepts (read (frame_rules frame) c.args.body.now) (sym c.in-Ok.is ∙ c.check_body.ensures) in
    let e = sym bodily in
    read_accepted (subst Accepts e accepted) (c.lay_rows.ensures ∙ ap (stored _) e)
