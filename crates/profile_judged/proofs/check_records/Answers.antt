-- `profile_judged::check_records` meets its contract: by what the fifteen records say.
use mathlib.Core.Path.{refl, ap}
use Rattle.std.specs.Prelude.{Err}
use Rattle.profile_judged.proofs.JudgeTurns.{records_checked}
use Rattle.profile_judged.proofs.check_records.Goals as goal

pub returns-in-Ok : goal.returns-in-Ok
returns-in-Ok c = records_checked _ _ _ _ _ _ _ (rw c.in-Ok.is at c.survey.ensures) _ refl

pub returns-in-Err : goal.returns-in-Err
returns-in-Err c = records_checked _ _ _ _ _ _ _ (rw c.in-Err.is at c.survey.ensures) _ (ap Err c.fault_of.ensures)
