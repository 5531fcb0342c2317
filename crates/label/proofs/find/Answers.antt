-- `label::find` meets its contract: by the parts' answers.
use native.Mathlib.Omega.{arith}
use Rattle.label.proofs.FileTurns.{record_refused, record_found}
use Rattle.label.proofs.find.Goals as goal

pub find_from_title-requires : goal.find_from_title-requires
find_from_title-requires c = let l = rw c.in-Ok.is at c.labels.ensures in (l.1.0, omega (arith, l.1.0.low, l.1.1))

pub returns-in-Err : goal.returns-in-Err
returns-in-Err c = record_refused _ _ _ _ (rw c.in-Err.is at c.labels.ensures) c.refusal_in.ensures

pub returns-in-Ok : goal.returns-in-Ok
returns-in-Ok c = record_found _ _ _ _ _ (rw c.in-Ok.is at c.labels.ensures) _ c.find_from_title.ensures
