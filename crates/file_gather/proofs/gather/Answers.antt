-- `file_gather::gather` meets its contract: the seven records in the order that 25 lists, or that one is lacking.
use mathlib.Core.Path.{sym}
use Prim.Native.Nat.{◌-◌}
use Rattle.file_gather.proofs.GatherLaws.{gathers_none, gathers_lacking, gathers_on, gathers_all, all_inside}
use Rattle.file_gather.proofs.gather.Goals as goal

pub loop-k-init : goal.loop-k-init
loop-k-init c = gathers_none _ _ _

pub returns-in_err-texts : goal.returns-in_err-texts
returns-in_err-texts c =
    rw c.from_residual.ensures (gathers_lacking _ _ _ c.loop-k.invariant c.loop-k-test.true (sym c.in_err-texts.ensures.0), tt)

pub loop-k-preserved : goal.loop-k-preserved
loop-k-preserved c =
    gathers_on _ _ _ c.loop-k.invariant c.loop-k-test.true (sym c.in_ok-texts.ensures.0) c.in_ok-texts.ensures.1

pub returns : goal.returns
returns c =
    let g = c.loop-k.invariant in
    rw c.needed.ensures (gathers_all _ _ _ g c.loop-k-test.false, all_inside _ _ _ g)
