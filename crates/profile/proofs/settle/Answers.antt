-- `profile::settle` meets its contract: what was checked is stored, and a fault is shown with line and column where it stands.
use Rattle.profile.proofs.ReadTurns.{read_refused, read_right}
use Rattle.profile.proofs.settle.Goals as goal

pub store_file-requires : goal.store_file-requires
store_file-requires c = let x = rw c.in-Ok.is at c.check_profile.ensures in x.says.laid

pub returns-in-Err : goal.returns-in-Err
returns-in-Err c = read_refused _ _ _ _ _ _ _ (rw c.in-Err.is at c.check_profile.ensures) _ c.refuse.ensures

pub returns-in-Ok : goal.returns-in-Ok
returns-in-Ok c =
    read_right _ _ _ _ _ _ (rw c.in-Ok.is at c.check_profile.ensures) _ c.store_file.ensures _ c.store_numbers.ensures
