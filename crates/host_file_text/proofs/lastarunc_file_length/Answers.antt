-- `host_file_text::lastarunc_file_length` meets its contract: what `file_length` says is told.
use Rattle.host_file_text.proofs.Tellings.{file_measured}
use Rattle.host_file_text.proofs.lastarunc_file_length.Goals as goal

pub returns : goal.returns
returns c =
    file_measured _ _ (rw c.scales_of.ensures at c.file_length-written.ensures) c.tell_file.ensures
