-- `host_text::tell_text` meets its contract: a length, or a refusal's number.
use Rattle.host_text.proofs.Tellings.{tells_length, tells_refusal}
use Rattle.host_text.proofs.tell_text.Goals as goal

pub returns-in-Ok : goal.returns-in-Ok
returns-in-Ok c = tells_length c.in-Ok.is

pub returns-in-Err : goal.returns-in-Err
returns-in-Err c = tells_refusal c.in-Err.is
