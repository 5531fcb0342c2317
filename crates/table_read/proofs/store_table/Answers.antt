-- `table_read::store_table` meets its contract: a table that is accepted has a legal frame.
use mathlib.Core.Path.{sym, ◌∙◌}
use mir.Facts.{to_z-of_z}
use Rattle.frame.specs.FrameLaws.{framed_outside, framed_legal}
use Rattle.table_read.proofs.AnswerLaws.{accepts_not_outside, accepts_body}
use Rattle.table_read.proofs.store_table.Goals as goal

pub store_body-requires : goal.store_body-requires
store_body-requires c =
    let z = rw (to_z-of_z c.ranges.first, to_z-of_z c.ranges.last) at (sym c.new.ensures ∙ c.in-Some.is) in
    let g = framed_legal _ _ _ z in (g.sound, (accepts_body _ _ _ _ _ g c.requires).1)

pub returns-in-None : goal.returns-in-None
returns-in-None c =
    let z = rw (to_z-of_z c.ranges.first, to_z-of_z c.ranges.last) at (sym c.new.ensures ∙ c.in-None.is) in
    accepts_not_outside _ _ _ _ _ (framed_outside _ _ _ z) c.requires

pub returns-in-Some : goal.returns-in-Some
returns-in-Some c =
    let z = rw (to_z-of_z c.ranges.first, to_z-of_z c.ranges.last) at (sym c.new.ensures ∙ c.in-Some.is) in
    rw (accepts_body _ _ _ _ _ (framed_legal _ _ _ z) c.requires).0 c.store_body.ensures
