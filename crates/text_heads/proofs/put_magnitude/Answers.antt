-- `text_heads::put_magnitude` meets its contract: g thousandths.
use native.Mathlib.Omega.{arith}
use Rattle.table_text.specs.Pieces.{put_as, put_then}
use Rattle.text_thousandths.proofs.HeadSteps.{magnitude_is}
use Rattle.text_heads.proofs.put_magnitude.Goals as goal

pub returns : goal.returns
returns c = let n = c.put_number-point.ensures in let f = c.put_fraction.ensures in
    (put_as (magnitude_is _) (put_then n.0 f.0), omega (arith, n.1, f.1))
