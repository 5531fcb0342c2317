-- `label_walk::walk` meets its contract: the outer scan's invariant is `Far`, the inner one's `Near`; each turn is a lemma of WalkTurns.
use Prim.Native.Nat.{◌-◌}
use native.Mathlib.Omega.{arith}
use Rattle.label_walk.proofs.WalkTurns.{far_start, far_done, far_empty, far_on, far_second, named_in}
use Rattle.label_walk.proofs.WalkTurns.{near_start, near_over, near_hashed, near_hit, near_on}
use Rattle.label_walk.proofs.walk.Goals as goal

pub walk-init : goal.walk-init
walk-init c = far_start _ _ c.requires

pub returns-in-Done : goal.returns-in-Done
returns-in-Done c = far_done _ _ _ c.walk.invariant _ (rw c.in-Done.is at c.next_judged.ensures)

pub overflow_add-at : goal.overflow_add-at
overflow_add-at c = let t = rw c.in-Empty.is at c.next_judged.ensures in omega (arith, t.says.1)

pub walk-smaller-in-Empty : goal.walk-smaller-in-Empty
walk-smaller-in-Empty c = let t = rw c.in-Empty.is at c.next_judged.ensures in omega (arith, t.says.0, t.says.1)

pub walk-preserved-in-Empty : goal.walk-preserved-in-Empty
walk-preserved-in-Empty c = far_empty _ _ _ c.walk.invariant _ (rw c.in-Empty.is at c.next_judged.ensures)

pub loop-at-init : goal.loop-at-init
loop-at-init c = near_start _ _ _ c.walk.invariant _ _ _ (rw c.in-Named.is at c.next_judged.ensures)

pub overflow_add-other : goal.overflow_add-other
overflow_add-other c =
    let b = named_in _ _ _ _ _ (rw c.in-Named.is at c.next_judged.ensures) in
    omega (arith, near_hashed _ _ _ _ _ c.loop-at.invariant _ c.next_mark-earlier.ensures c.if-earlier-mark.false b)

pub is_same-requires : goal.is_same-requires
is_same-requires c =
    let t = rw c.in-Named.is at c.next_judged.ensures in
    let n = near_hashed _ _ _ _ _ c.loop-at.invariant _ c.next_mark-earlier.ensures c.if-earlier-mark.false (named_in _ _ _ _ _ t) in
    (n, t.says.2, omega (arith, t.says.3), c.first_of-first.ensures)

pub loop-at-smaller : goal.loop-at-smaller
loop-at-smaller c =
    let t = rw c.in-Named.is at c.next_judged.ensures in
    let n = near_hashed _ _ _ _ _ c.loop-at.invariant _ c.next_mark-earlier.ensures c.if-earlier-mark.false (named_in _ _ _ _ _ t) in omega arith

pub loop-at-preserved : goal.loop-at-preserved
loop-at-preserved c =
    let t = rw c.in-Named.is at c.next_judged.ensures in
    near_on _ _ _ _ _ c.loop-at.invariant _ c.next_mark-earlier.ensures c.if-earlier-mark.false (named_in _ _ _ _ _ t) _ c.is_same.ensures c.if-is_same.false

pub overflow_add-at-in-Named : goal.overflow_add-at-in-Named
overflow_add-at-in-Named c = let t = rw c.in-Named.is at c.next_judged.ensures in omega (arith, t.says.3)

pub walk-smaller : goal.walk-smaller
walk-smaller c = let t = rw c.in-Named.is at c.next_judged.ensures in omega (arith, t.says)

pub walk-preserved : goal.walk-preserved
walk-preserved c =
    let t = rw c.in-Named.is at c.next_judged.ensures in
    far_on _ _ _ c.walk.invariant _ _ _ t (near_over _ _ _ _ _ c.loop-at.invariant _ c.next_mark-earlier.ensures c.if-earlier-mark.true)

pub returns : goal.returns
returns c =
    let t = rw c.in-Named.is at c.next_judged.ensures in
    rw c.of.ensures (far_second _ _ _ c.walk.invariant _ _ _ t
    (near_hit _ _ _ _ _ c.loop-at.invariant _ c.next_mark-earlier.ensures c.if-earlier-mark.false (named_in _ _ _ _ _ t) _
    c.is_same.ensures c.if-is_same.true))
