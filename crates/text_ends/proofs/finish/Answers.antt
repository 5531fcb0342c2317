-- `text_ends::finish` meets its contract: the text's end after the last group, with a check line if one is needed.
use Rattle.table_text.specs.Pieces.{put_then}
use Rattle.text_ends.proofs.finish.Goals as goal

pub returns : goal.returns
returns c = put_then c.put_end-e.ensures c.put_close.ensures
