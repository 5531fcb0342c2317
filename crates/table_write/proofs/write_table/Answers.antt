-- `table_write::write_table` meets its contract: what `write_form` answers of DIFDUP.
use mir.Facts.{to_z-of_z}
use Rattle.table_write.proofs.write_table.Goals as goal

pub returns : goal.returns
returns c =
    let f = c.ranges in
    rw (to_z-of_z f.first, to_z-of_z f.last) at c.write_form.ensures
