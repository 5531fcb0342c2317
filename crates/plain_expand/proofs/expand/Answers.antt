-- `plain_expand::expand` meets its contract: the row grows value by value, and is laid.
use Rattle.std.proofs.lemmas.Result.{err_from_is_err_and}
use Prim.Native.Nat.{◌-◌}
use native.Mathlib.Omega.{arith}
use borrow.Author.Rules.{rules}
use Rattle.plain_expand.proofs.GrowLaws.{growing_none, grow_over, grow_on, grow_bad, grow_end}
use Rattle.plain_expand.proofs.expand.Goals as goal

pub loop-j-init : goal.loop-j-init
loop-j-init c = growing_none _ _ _ _ c.requires.1

pub next_value-requires : goal.next_value-requires
next_value-requires c = let g = c.loop-j.invariant.stands in (g.some, g.high, g.small, g.right)

pub returns-in-End : goal.returns-in-End
returns-in-End c =
    record { says = grow_end _ _ _ _ _ _ c.loop-j.invariant _ (rw c.in-End.is at c.in_ok-j.ensures) }

pub returns-in_err-j : goal.returns-in_err-j
returns-in_err-j c =
    let p = err_from_is_err_and c.from_residual.result c.from_residual.ensures.1 in rw (p.1, p.2)
    (record { says = grow_bad _ _ _ _ _ _ c.loop-j.invariant _ _ c.in_err-j.ensures })

pub overflow_add-end : goal.overflow_add-end
overflow_add-end c =
    let h = rw c.in-Gives.is at c.in_ok-j.ensures in
    let a = h.2.few in let b = c.loop-j.invariant.stands.few in let d = c.requires.0 in
    omega arith

pub returns-then-end-points : goal.returns-then-end-points
returns-then-end-points c =
    rw c.of.ensures (record { says = grow_over _ _ _ _ _ _ c.loop-j.invariant _ _ _ (rw c.in-Gives.is at c.in_ok-j.ensures) c.if-end-points.true })

pub repeat-requires : goal.repeat-requires
repeat-requires c =
    let h = rw c.in-Gives.is at c.in_ok-j.ensures in
    let l = c.if-end-points.false in let d = c.requires.0 in
    (omega arith, h.2.small, h.2.reach)

pub loop-j-smaller : goal.loop-j-smaller
loop-j-smaller c =
    let h = rw c.in-Gives.is at c.in_ok-j.ensures in let l = h.0 in let j = h.1 in
    omega arith

pub loop-j-preserved : goal.loop-j-preserved
loop-j-preserved c =
    grow_on _ _ _ _ _ _ c.loop-j.invariant _ _ _ (rw c.in-Gives.is at c.in_ok-j.ensures) _ c.if-end-points.false (search rules) c.repeat.ensures
