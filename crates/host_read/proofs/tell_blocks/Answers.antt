-- `host_read::tell_blocks` meets its contract: how many blocks, or a refusal.
use mathlib.Core.Path.{sym, ap}
use Rattle.host_numbers.specs.NumberLaws.{tells, told_as}
use Rattle.host_read.specs.Answers.{blocks_numbers}
use Rattle.host_read.proofs.tell_blocks.Goals as goal

pub returns-in-Err : goal.returns-in-Err
returns-in-Err c = tells _ (ap blocks_numbers c.in-Err.is)

pub returns-in-Ok : goal.returns-in-Ok
returns-in-Ok c = told_as (ap blocks_numbers (sym c.in-Ok.is)) c.tell_count.ensures
