-- `plain_read::lay_rows` meets its contract: the rows are those of an accepted body.
use Rattle.table_read.proofs.AnswerLaws.{stored_all}
use Rattle.plain_read.proofs.lay_rows.Goals as goal

pub returns : goal.returns
returns c = stored_all c.requires.1 c.rows.ensures
