-- `text_tokens::base_of` meets its contract: what the first digit of a difference is added to.
use native.Mathlib.Omega.{arith}
use lib.Dec.{lit≤}
use Rattle.text_tokens.proofs.TokenSteps.{lead_down, lead_same, lead_up}
use Rattle.text_tokens.proofs.base_of.Goals as goal

pub returns-then-y-p : goal.returns-then-y-p
returns-then-y-p c = (lead_down _ _ c.if-y-p.true, lit≤ tt)

pub returns-then-y-p-2 : goal.returns-then-y-p-2
returns-then-y-p-2 c = (lead_same _ _ c.if-y-p-2.true, lit≤ tt)

pub returns : goal.returns
returns c = (lead_up _ _ (omega (arith, c.if-y-p.false, c.if-y-p-2.false)), lit≤ tt)
