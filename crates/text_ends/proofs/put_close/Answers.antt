-- `text_ends::put_close` meets its contract: the last check line, if the text ends in DIF form.
use Rattle.table_text.specs.Pieces.{put_as, put_then, put_none}
use Rattle.text_openings.proofs.LineSteps.{close_dif, close_not}
use Rattle.text_ends.proofs.put_close.Goals as goal

pub returns-then-not-dif : goal.returns-then-not-dif
returns-then-not-dif c = put_as (close_not _ _ _ _ (c.if-not-dif.true)) (put_none _ _)

pub returns : goal.returns
returns c = put_as (close_dif _ _ _ _ (c.if-not-dif.false))
    (put_then c.put_check-a.ensures.0 c.put_end.ensures)
