-- `label::find_record` meets its contract: no record passed has the name.
use mathlib.Core.Path.{refl}
use Prim.Native.Nat.{◌-◌}
use native.Mathlib.Omega.{arith}
use Rattle.label.proofs.RecordTurns.{finds_past, finds_over, finds_text, unfound_on}
use Rattle.label.proofs.find_record.Goals as goal

pub loop-start-init : goal.loop-start-init
loop-start-init c = (omega arith, omega arith, refl)

pub returns-then-mark-stop : goal.returns-then-mark-stop
returns-then-mark-stop c = finds_past _ _ _ _ _ c.loop-start.invariant _ c.next_mark-mark.ensures c.if-mark-stop.true

pub returns-then-mark-part : goal.returns-then-mark-part
returns-then-mark-part c = finds_over _ _ _ _ _ c.loop-start.invariant _ c.next_mark-mark.ensures c.if-mark-part.true

pub eq_here-requires : goal.eq_here-requires
eq_here-requires c = (c.next_mark-mark.ensures.stops c.if-mark-part.false, c.first_of-first.ensures)

pub overflow_add-next : goal.overflow_add-next
overflow_add-next c = let x = rw c.in-Some.is at c.eq_here.ensures in omega (arith, x.says.1)

pub next_mark-end-requires : goal.next_mark-end-requires
next_mark-end-requires c = let x = rw c.in-Some.is at c.eq_here.ensures in omega (arith, x.says.1)

pub returns-in-Some : goal.returns-in-Some
returns-in-Some c =
    let x = rw c.in-Some.is at c.eq_here.ensures in
    finds_text _ _ _ _ _ c.loop-start.invariant _
    c.next_mark-mark.ensures c.if-mark-stop.false _ _ x c.next_mark-end.ensures

pub loop-start-preserved : goal.loop-start-preserved
loop-start-preserved c =
    unfound_on _ _ _ _ _ c.loop-start.invariant _ c.next_mark-mark.ensures
    c.if-mark-stop.false c.if-mark-part.false
    (rw c.in-None.is at c.eq_here.ensures)
