-- `host_read::tell_block` meets its contract: what a file is told with, or that there is no block.
use mathlib.Core.Path.{sym, ap}
use Rattle.host_numbers.specs.NumberLaws.{tells, told_as}
use Rattle.host_read.specs.Answers.{block_numbers}
use Rattle.host_read.proofs.tell_block.Goals as goal

pub returns-in-Some : goal.returns-in-Some
returns-in-Some c = told_as (ap block_numbers (sym c.in-Some.is)) c.tell_file.ensures

pub returns-in-None : goal.returns-in-None
returns-in-None c = tells _ (ap block_numbers c.in-None.is)
