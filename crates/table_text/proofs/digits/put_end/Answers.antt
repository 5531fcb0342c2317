-- `table_text::digits::put_end` meets its contract: CR LF.
use Rattle.table_text.proofs.ByteSteps.{put_two}
use Rattle.table_text.proofs.digits.put_end.Goals as goal

pub returns : goal.returns
returns c = put_two _ _ c.put.ensures _ c.put-2.ensures
