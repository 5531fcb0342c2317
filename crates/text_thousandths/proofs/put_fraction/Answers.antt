-- `text_thousandths::put_fraction` meets its contract: the thousandths f after the point, without trailing zeros; for none, no point either.
use native.Mathlib.Omega.{arith}
use Rattle.table_text.specs.Pieces.{put_as, put_none}
use Rattle.table_text.proofs.ByteSteps.{put_two, put_three, put_four}
use Rattle.text_thousandths.proofs.HeadSteps.{no_fraction, one_place, two_places, three_places}
use Rattle.text_thousandths.proofs.put_fraction.Goals as goal

pub returns-then-f-eq0 : goal.returns-then-f-eq0
returns-then-f-eq0 c = (put_as (no_fraction _ c.if-f-eq0.true) (put_none _ _), omega arith)

pub returns-then-f-eq0-2 : goal.returns-then-f-eq0-2
returns-then-f-eq0-2 c = (
  put_as (one_place _ c.if-f-eq0.false c.if-f-eq0-2.true)
      (put_two _ _ c.put.ensures _ c.put-2.ensures),
  omega arith,
)

pub returns-then-f-eq0-3 : goal.returns-then-f-eq0-3
returns-then-f-eq0-3 c = (
  put_as (two_places _ c.if-f-eq0.false c.if-f-eq0-2.false c.if-f-eq0-3.true) (put_three _ _
      c.put.ensures _ _ c.put-2.ensures c.put-3.ensures),
  omega arith,
)

pub returns : goal.returns
returns c = (
  put_as (three_places _ c.if-f-eq0.false c.if-f-eq0-2.false c.if-f-eq0-3.false)
      (put_four _ _ c.put.ensures _ _ _ c.put-2.ensures c.put-3.ensures c.put-4.ensures),
  omega arith,
)
