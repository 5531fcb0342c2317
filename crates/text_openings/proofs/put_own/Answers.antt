-- `text_openings::put_own` meets its contract: an ordinate in SQZ form.
use Rattle.table_text.specs.Pieces.{put_as}
use Rattle.text_openings.proofs.LineSteps.{sqz_up, sqz_down}
use Rattle.text_openings.proofs.put_own.Goals as goal

pub returns-then-u-ge-ZERO_ORDINATE : goal.returns-then-u-ge-ZERO_ORDINATE
returns-then-u-ge-ZERO_ORDINATE c = let n = c.put_number.ensures in (put_as (sqz_up _ c.if-u-ge-ZERO_ORDINATE.true) n.0, n.1)

pub returns : goal.returns
returns c = let n = c.put_number-2.ensures in (put_as (sqz_down _ c.if-u-ge-ZERO_ORDINATE.false) n.0, n.1)
