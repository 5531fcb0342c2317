-- `host_text::write_style` meets its contract: what `write_form` says is told.
use mir.Facts.{to_z-of_z}
use Rattle.host_text.proofs.Tellings.{text_told}
use Rattle.host_text.proofs.write_style.Goals as goal

pub returns : goal.returns
returns c =
    text_told _ (rw (to_z-of_z c.ranges.first, to_z-of_z c.ranges.last) at c.write_form-written.ensures) c.tell_text.ensures
