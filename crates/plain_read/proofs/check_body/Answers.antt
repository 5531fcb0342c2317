-- `plain_read::check_body` meets its contract: of what the lines say and 16 the sooner one.
use Rattle.table_spec.specs.Reading.{read}
use Rattle.table_read.proofs.AnswerLaws.{sooner_told}
use Rattle.plain_read.proofs.check_body.Goals as goal

pub check_rows-found-requires : goal.check_rows-found-requires
check_rows-found-requires c = c.requires

pub returns : goal.returns
unfolding read
returns c = rw (c.sooner.ensures, c.long_line-long.ensures, c.check_rows-found.ensures) (sooner_told _ _)
