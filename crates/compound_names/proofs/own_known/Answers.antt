-- `compound_names::own_known` meets its contract: mark by mark, up to the label's own.
use native.Mathlib.Omega.{arith}
use Rattle.label_spec.specs.LabelLaws.{hash_in}
use Rattle.compound_names.proofs.NameScan.{near_begin, near_past, near_none, near_known, near_over, near_on}
use Rattle.compound_names.proofs.own_known.Goals as goal
use Rattle.compound_names.proofs.own_known.Goals.{then-here-mark-via-then-here-mark, then-here-mark-via-else-here-mark+then-here-s}

pub loop-start-init : goal.loop-start-init
loop-start-init c = near_begin _ _ _ _ c.requires.0

pub next_mark-here-requires : goal.next_mark-here-requires
next_mark-here-requires c = c.loop-start.invariant.high

pub returns-then-here-mark : goal.returns-then-here-mark
returns-then-here-mark c = elim c.then-here-mark.branch [
  | then-here-mark-via-then-here-mark w ↦ near_past _ _ _ _ _ _ c.loop-start.invariant _ c.next_mark-here.ensures w.if-here-mark.true
  | then-here-mark-via-else-here-mark+then-here-s w ↦ near_none _ _ _ _ _ _ c.loop-start.invariant _ c.next_mark-here.ensures w.if-here-s.true
]

pub met_here-requires : goal.met_here-requires
met_here-requires c =
    let q = c.next_mark-here.ensures in
    let p = c.requires in
    let l = c.if-here-s.false in
    (q.stops (omega arith), omega (arith, c.loop-start.invariant.deep, q.low), p.1, p.2, c.first_of-first.ensures)

pub returns-in-Known : goal.returns-in-Known
returns-in-Known c =
    near_known _ _ _ _ _ _ c.loop-start.invariant _ c.next_mark-here.ensures (omega (arith, c.if-here-mark.false)) (omega (arith, c.if-here-s.false)) (rw c.in-Known.is at c.met_here.ensures)

pub returns-in-Over : goal.returns-in-Over
returns-in-Over c =
    near_over _ _ _ _ _ _ c.loop-start.invariant _ c.next_mark-here.ensures (omega (arith, c.if-here-mark.false)) (omega (arith, c.if-here-s.false)) (rw c.in-Over.is at c.met_here.ensures)

pub overflow_add-at : goal.overflow_add-at
overflow_add-at c = let l = c.if-here-s.false in omega (arith, hash_in _ _ (c.next_mark-here.ensures.stops (omega arith)))

pub loop-start-smaller : goal.loop-start-smaller
loop-start-smaller c = let q = c.next_mark-here.ensures in let l = c.if-here-s.false in omega (arith, q.low)

pub loop-start-preserved : goal.loop-start-preserved
loop-start-preserved c =
    near_on _ _ _ _ _ _ c.loop-start.invariant _ c.next_mark-here.ensures (omega (arith, c.if-here-mark.false)) (omega (arith, c.if-here-s.false)) _ (rw c.in-Depth.is at c.met_here.ensures)
