-- `text_openings::put_check` meets its contract: the head and the first value of a check line, after i points, the last of them p.
use native.Mathlib.Omega.{arith}
use Rattle.table_text.specs.Pieces.{put_as, put_then}
use Rattle.text_openings.proofs.LineSteps.{check_is}
use Rattle.text_openings.proofs.put_check.Goals as goal

pub returns : goal.returns
returns c = let h = c.put_head-h.ensures in let v = c.put_own.ensures in
    (put_as (check_is _ _ _) (put_then h.0 v.0), omega (arith, h.1, v.1))
