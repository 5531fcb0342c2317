-- `table_read::store_body` meets its contract: the pass stores what an accepted body says.
use Rattle.table_read.proofs.AnswerLaws.{stored_all}
use Rattle.table_read.proofs.store_body.Goals as goal

pub returns : goal.returns
returns c = stored_all c.requires.1 c.pass.ensures
