-- `table_read::read_table` meets its contract: what checking answered, with line and column; or all ordinates are stored.
use mathlib.Core.Path.{sym, ◌∙◌}
use lib.ListN.{length}
use mir.Facts.{to_z-of_z}
use Rattle.table_spec.specs.Reading.{read_table}
use Rattle.table_read.proofs.AnswerLaws.{read_refused, first_accepts, read_accepted}
use Rattle.table_read.proofs.read_table.Goals as goal

pub store_table-requires : goal.store_table-requires
store_table-requires c =
    let a = c.args in
    let z = rw (to_z-of_z c.ranges.first, to_z-of_z c.ranges.last) at (sym c.in-Ok.is ∙ c.check_table.ensures) in
    rw (to_z-of_z c.ranges.first, to_z-of_z c.ranges.last) (first_accepts (read_table a.first a.last a.points a.body.now (length a.out.now)) z)

pub returns-in-Err : goal.returns-in-Err
returns-in-Err c =
    let z = rw (to_z-of_z c.ranges.first, to_z-of_z c.ranges.last) at (sym c.in-Err.is ∙ c.check_table.ensures) in
    read_refused z c.refusal_in.ensures

pub returns-in-Ok : goal.returns-in-Ok
returns-in-Ok c =
    let a = c.args in
    let z = rw (to_z-of_z c.ranges.first, to_z-of_z c.ranges.last) at (sym c.in-Ok.is ∙ c.check_table.ensures) in
    read_accepted (first_accepts (read_table a.first a.last a.points a.body.now (length a.out.now)) z)
    (rw (to_z-of_z c.ranges.first, to_z-of_z c.ranges.last) at c.store_table.ensures)
