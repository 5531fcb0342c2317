-- `file::read_file` meets its contract: what was checked is settled, and a fault is shown with line and column in the file.
use Rattle.file.proofs.SettleLaws.{stage_settled, file_table, file_fault}
use Rattle.file.proofs.read_file.Goals as goal

pub settle-requires : goal.settle-requires
settle-requires c = c.check_file-c.ensures.laid

pub returns-in-Ok : goal.returns-in-Ok
returns-in-Ok c =
    file_table c.in-Ok.is (stage_settled c.check_file-c.ensures c.settle.ensures)

pub returns-in-Err : goal.returns-in-Err
returns-in-Err c =
    file_fault c.in-Err.is c.refusal_in.ensures (stage_settled c.check_file-c.ensures c.settle.ensures)
