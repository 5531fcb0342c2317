-- `file::read_part` meets its contract: what was checked is settled.
use Rattle.file.proofs.SettleLaws.{stage_settled}
use Rattle.file.proofs.read_part.Goals as goal

pub settle-requires : goal.settle-requires
settle-requires c = c.check_part-c.ensures.laid

pub returns : goal.returns
returns c = stage_settled c.check_part-c.ensures c.settle.ensures
