-- `table_write::write_form` meets its contract: the refusal of the tests before writing, and else what the frame gives.
-- where the tests are made, and the start from there
use mathlib.Core.Path.{ap, ◌∙◌}
use Rattle.std.proofs.lemmas.Result.{err_from_is_err_and}
use mir.Facts.{to_z-of_z}
use Rattle.frame.specs.FrameLaws.{framed_legal}
use Rattle.table_text.proofs.AnswerSteps.{inside}
use Rattle.table_given.specs.Checks.{Checks}
use Rattle.table_write.proofs.RoomSteps.{refused_tells, enough_ordinates}
use Rattle.table_write.proofs.write_form.Goals as goal
use Rattle.std.specs.Prelude.{Ok, Err}

pub write_framed-requires : goal.write_framed-requires
write_framed-requires c =
    let taken : let a = c.args in Checks a.first a.last a.points a.ordinates.now (Ok c.in_ok-fr.fr) = rw (to_z-of_z c.ranges.first, to_z-of_z c.ranges.last) at c.in_ok-fr.ensures in
    let t = taken in
    ((framed_legal _ _ _ t.0).sound, enough_ordinates _ _ _ c.args.ordinates.now t.0 t.1)

pub returns-in_err-fr : goal.returns-in_err-fr
returns-in_err-fr c =
    let no = rw (to_z-of_z c.ranges.first, to_z-of_z c.ranges.last) at c.in_err-fr.ensures in
    let p = err_from_is_err_and c.from_residual.result c.from_residual.ensures.1 in
    refused_tells (no c.args.style _) (p.1 ∙ ap Err p.2)

pub returns : goal.returns
returns c =
    let taken : let a = c.args in Checks a.first a.last a.points a.ordinates.now (Ok c.in_ok-fr.fr) = rw (to_z-of_z c.ranges.first, to_z-of_z c.ranges.last) at c.in_ok-fr.ensures in
    let a = c.args in
    inside a.style _ _ _ a.ordinates.now _ taken.0 c.write_framed.ensures
