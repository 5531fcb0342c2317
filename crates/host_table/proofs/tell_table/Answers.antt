-- `host_table::tell_table` meets its contract: the points, or a refusal.
use mathlib.Core.Path.{ap}
use Rattle.host_numbers.specs.NumberLaws.{tells}
use Rattle.host_table.specs.Answers.{table_numbers}
use Rattle.host_table.proofs.tell_table.Goals as goal

pub returns-in-Ok : goal.returns-in-Ok
returns-in-Ok c = tells _ (ap table_numbers c.in-Ok.is)

pub returns-in-Err : goal.returns-in-Err
returns-in-Err c = tells _ (ap table_numbers c.in-Err.is)
