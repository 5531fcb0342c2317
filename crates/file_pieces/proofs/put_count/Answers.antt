-- `file_pieces::put_count` meets its contract: a number whose first digit is a plain one.
use Rattle.file_pieces.proofs.Steps.{count_put}
use Rattle.file_pieces.proofs.put_count.Goals as goal

pub returns : goal.returns
returns c = (count_put _ c.put_number.ensures.0, c.put_number.ensures.1)
