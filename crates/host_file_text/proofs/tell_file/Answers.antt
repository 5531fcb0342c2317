-- `host_file_text::tell_file` meets its contract: a length and what is exact, or a refusal's number.
use Rattle.host_file_text.proofs.Tellings.{tells_file, tells_file_refusal}
use Rattle.host_file_text.proofs.tell_file.Goals as goal

pub returns-in-Ok : goal.returns-in-Ok
returns-in-Ok c =
    tells_file c.in-Ok.is c.flags_of.ensures

pub returns-in-Err : goal.returns-in-Err
returns-in-Err c = tells_file_refusal c.in-Err.is
