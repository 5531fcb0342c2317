-- `text_openings::put_opening` meets its contract: the start of a new line.
use native.Mathlib.Omega.{arith}
use Rattle.table_text.specs.Pieces.{put_as}
use Rattle.text_openings.proofs.LineSteps.{opening_dif, opening_not}
use Rattle.text_openings.proofs.put_opening.Goals as goal

pub put_check-requires : goal.put_check-requires
put_check-requires c = let p = c.requires in (p.0, p.1.some c.if-s.true, omega (arith, p.2), p.1.small, p.3)

pub returns-then-s : goal.returns-then-s
returns-then-s c = let v = c.put_check.ensures in (put_as (opening_dif _ _ _ _ c.if-s.true) v.0, v.1)

pub returns : goal.returns
returns c = let v = c.put_head.ensures in (put_as (opening_not _ _ _ _ c.if-s.false) v.0, omega (arith, v.1))
