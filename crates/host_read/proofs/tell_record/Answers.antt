-- `host_read::tell_record` meets its contract: from where up to where, absent, or a refusal.
use mathlib.Core.Path.{sym, ap}
use Rattle.host_numbers.specs.NumberLaws.{tells, told_as}
use Rattle.host_read.specs.Answers.{record_numbers}
use Rattle.host_read.proofs.tell_record.Goals as goal

pub returns-in-Ok : goal.returns-in-Ok
returns-in-Ok c = told_as (ap record_numbers (sym c.in-Ok.is)) c.tell_place.ensures

pub returns-in-Err : goal.returns-in-Err
returns-in-Err c = tells _ (ap record_numbers c.in-Err.is)
