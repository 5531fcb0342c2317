-- `host_text::lastarunc_write_table` meets its contract: what `write_style` answers of DIFDUP.
use mir.Facts.{to_z-of_z}
use Rattle.host_text.proofs.lastarunc_write_table.Goals as goal

pub returns : goal.returns
returns c =
    let f = c.ranges in
    rw (to_z-of_z f.first, to_z-of_z f.last) at c.write_style.ensures
