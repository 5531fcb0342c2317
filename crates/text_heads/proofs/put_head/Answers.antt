-- `text_heads::put_head` meets its contract: the head of the point i.
use native.Mathlib.Omega.{arith}
use Rattle.table_text.specs.Pieces.{put_as, put_then, put_byte}
use Rattle.text_thousandths.proofs.HeadSteps.{head_up, head_down}
use Rattle.text_heads.proofs.put_head.Goals as goal

pub returns-then-h-ge10000000000 : goal.returns-then-h-ge10000000000
returns-then-h-ge10000000000 c = let m = c.put_magnitude.ensures in (
  put_as
      (head_up _ _ _ c.abscissa-h.ensures.0 c.if-h-ge10000000000.true) m.0,
  omega (arith, m.1),
)

pub returns : goal.returns
returns c = let m = c.put_magnitude-2.ensures in (
  put_as
      (head_down _ _ _ c.abscissa-h.ensures.0
      c.if-h-ge10000000000.false)
      (put_then (put_byte _ _ c.put.ensures) m.0),
  omega (arith, m.1),
)
