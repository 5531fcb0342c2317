-- `table_read::check_body` meets its contract: of what the lines say and 16 the sooner one.
use Rattle.table_spec.specs.Reading.{read}
use Rattle.table_read.proofs.AnswerLaws.{sooner_told}
use Rattle.table_read.proofs.check_body.Goals as goal

pub check_lines-found-requires : goal.check_lines-found-requires
check_lines-found-requires c = c.requires

pub returns : goal.returns
unfolding read
returns c = rw (c.sooner.ensures, c.long_line-long.ensures, c.check_lines-found.ensures) (sooner_told _ _)
