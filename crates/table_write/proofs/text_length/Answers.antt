-- `table_write::text_length` meets its contract: the refusal of the tests before writing, or the length that writing into enough room answers.
-- what the tests say where they pass
use Rattle.std.proofs.lemmas.Result.{err_from_is_err_and}
use mathlib.Core.Path.{sym, ap, ◌∙◌}
use mir.Facts.{to_z-of_z}
use Rattle.frame.specs.FrameLaws.{framed_legal}
use Rattle.table_text.specs.Answers.{told}
use Rattle.table_given.specs.Checks.{Checks}
use Rattle.table_write.proofs.RoomSteps.{as_many, measured}
use Rattle.table_write.proofs.text_length.Goals as goal
use Rattle.std.specs.Prelude.{Ok, Err}

pub slice_bounds-length_of-end : goal.slice_bounds-length_of-end
slice_bounds-length_of-end c =
    let taken : let a = c.args in Checks a.first a.last a.points a.ordinates.now (Ok c.in_ok-fr.fr) = rw (to_z-of_z c.ranges.first, to_z-of_z c.ranges.last) at c.in_ok-fr.ensures in
    let t = taken in sym (as_many _ _ _ _ t.0 t.1)

pub length_of-requires : goal.length_of-requires
length_of-requires c =
    let taken : let a = c.args in Checks a.first a.last a.points a.ordinates.now (Ok c.in_ok-fr.fr) = rw (to_z-of_z c.ranges.first, to_z-of_z c.ranges.last) at c.in_ok-fr.ensures in
    let t = taken in ((framed_legal _ _ _ t.0).sound, as_many _ _ _ _ t.0 t.1)

pub returns-in_err-fr : goal.returns-in_err-fr
returns-in_err-fr c =
    let no = rw (to_z-of_z c.ranges.first, to_z-of_z c.ranges.last) at c.in_err-fr.ensures in
    let p = err_from_is_err_and c.from_residual.result c.from_residual.ensures.1 in
    p.1 ∙ ap Err p.2 ∙ sym (ap told (no c.args.style _))

pub returns : goal.returns
returns c =
    let taken : let a = c.args in Checks a.first a.last a.points a.ordinates.now (Ok c.in_ok-fr.fr) = rw (to_z-of_z c.ranges.first, to_z-of_z c.ranges.last) at c.in_ok-fr.ensures in
    let t = taken in
    measured _ _ _ _ t.0 t.1 c.args.style c.length_of.ensures
