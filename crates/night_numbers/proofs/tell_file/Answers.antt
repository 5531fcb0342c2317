-- `night_numbers::tell_file` meets its contract: a file that was read, or its refusal.
use mathlib.Core.Path.{refl}
use Rattle.night_numbers.proofs.tell_file.Goals as goal

pub returns-in-Ok : goal.returns-in-Ok
returns-in-Ok c = rw c.in-Ok.is c.tell_account.ensures

pub returns-in-Err : goal.returns-in-Err
returns-in-Err c = rw c.in-Err.is (refl, refl)
