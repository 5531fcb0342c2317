-- `ordinate_tally::tally_up` meets its contract: from the last to the first, what is added up is what the ordinates from there on come to.
use mathlib.Core.Path.{◌∙◌}
use native.Mathlib.Omega.{arith}
use Rattle.ordinate_tally.proofs.TallyLaws.{far_start, far_more, front_length, front_entry}
use Rattle.ordinate_tally.proofs.tally_up.Goals as goal

pub loop-k-init : goal.loop-k-init
loop-k-init c = far_start _ _ (front_length _ c.args.ys.now c.requires.0)

pub loop-k-preserved : goal.loop-k-preserved
loop-k-preserved c =
    let f = c.loop-k.invariant in let a = c.args in
    let e = c.ordinate_at.ensures.0 ∙ front_entry a.n a.ys.now _ (omega (arith, f.high, c.loop-k-test.true)) in
    rw c.tallied-t.ensures (far_more (front_length a.n a.ys.now c.requires.0) f c.loop-k-test.true e c.ordinate_at.ensures.1)
