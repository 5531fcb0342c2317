-- `host_file_text::lastarunc_write_file` meets its contract: what `write_file` says is told.
use Rattle.host_file_text.proofs.Tellings.{file_told}
use Rattle.host_file_text.proofs.lastarunc_write_file.Goals as goal

pub returns : goal.returns
returns c =
    file_told _ (rw c.scales_of.ensures at c.write_file-written.ensures) c.tell_file.ensures
