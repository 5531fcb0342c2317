-- `file_marks::list_ended` meets its contract: the list is whole at 11.
use Rattle.file_marks.proofs.TextLaws.{ended_full, ended_short}
use Rattle.file_marks.proofs.list_ended.Goals as goal

pub returns-then-k-eq11 : goal.returns-then-k-eq11
returns-then-k-eq11 c = ended_full _ _ c.if-k-eq11.true

pub returns : goal.returns
returns c = ended_short _ _ c.requires c.if-k-eq11.false
