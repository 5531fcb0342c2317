-- `text_groups::put_dup` meets its contract: the DUP for m more of a token.
use mathlib.Core.Path.{refl}
use native.Mathlib.Omega.{arith}
use Rattle.table_text.specs.Pieces.{put_as, put_none}
use Rattle.table_text.proofs.NumberSteps.{dup_none, dup_put}
use Rattle.text_groups.proofs.put_dup.Goals as goal

pub returns-then-m-eq0 : goal.returns-then-m-eq0
returns-then-m-eq0 c = (put_as (dup_none _ c.if-m-eq0.true) (put_none _ _), omega arith)

pub returns : goal.returns
returns c = let d = c.put_digits-d.ensures in let n = c.further_digits-n.ensures in (
  dup_put _ _ _ _ n.0 d.2 c.put.ensures _ _ c.if-m-eq0.false refl c.dup_byte-b.ensures d.0,
  omega (arith, n.1),
)
