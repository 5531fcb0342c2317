-- `table_runs::differences` meets its contract: THE HOT LOOP.
use mathlib.Core.Path.{refl}
use mathlib.Core.Logic.{inl, ⊎_elim}
use Prim.Native.Nat.{◌+◌, ◌-◌, ◌≤◌}
use native.Mathlib.Omega.{arith}
use lib.ListN.{length}
use borrow.Author.Rules.{rules}
use Rattle.table_steps.specs.Ways.{Been}
use Rattle.table_value.proofs.Walks.{went_none}
use Rattle.table_steps.proofs.Ways.{onward_end}
use Rattle.table_runs.proofs.differences.Goals as goal
use Rattle.table_runs.proofs.differences.Goals.{else-loop-w-test, then-loop-w-test+then-w-at}

pub returns-then-not-roomy : goal.returns-then-not-roomy
returns-then-not-roomy c = went_none _ _ c.requires.1

pub overflow_sub-past : goal.overflow_sub-past
overflow_sub-past c =
    let room : let a = c.args in (a.c.at + 4 ≤ length a.s.now) × (10000000 ≤ a.c.q) × (a.c.q ≤ 4284967296) = c.roomy.ensures (c.if-not-roomy.false) in
    let r = room.0 in omega arith

pub overflow_sub-points : goal.overflow_sub-points
overflow_sub-points c = c.requires.1.few

pub run_end-requires : goal.run_end-requires
run_end-requires c =
    let room : let a = c.args in (a.c.at + 4 ≤ length a.s.now) × (10000000 ≤ a.c.q) × (a.c.q ≤ 4284967296) = c.roomy.ensures (c.if-not-roomy.false) in
    let r = room.0 in omega arith

pub loop-w-init : goal.loop-w-init
loop-w-init c =
    let room : let a = c.args in (a.c.at + 4 ≤ length a.s.now) × (10000000 ≤ a.c.q) × (a.c.q ≤ 4284967296) = c.roomy.ensures (c.if-not-roomy.false) in
    let r = room in let h = r.0 in let l = r.1 in let g = r.2 in let p = c.requires in let m = p.0 in
    let f = p.1.few in let e = c.run_end.ensures in let x = e.0 in let y = e.1 in let z = e.2 in (
      record { most = omega arith; past = omega arith; low = omega arith; high = omega arith; small = inl refl },
      inl (refl, refl, refl, refl, refl),
      omega arith,
      refl,
    )

pub onward-w-requires : goal.onward-w-requires
onward-w-requires c =
    let i = c.loop-w.invariant.0 in let p = i.past in let l = c.loop-w-test.true in
    record { safe = i; room = omega arith; some = l }

pub loop-w-smaller : goal.loop-w-smaller
loop-w-smaller c =
    let i = c.loop-w.invariant.2 in let f = c.onward-w.ensures.fewer in
    ⊎_elim (λ x. absurd (c.if-w-at.false x)) (λ x. omega arith) c.onward-w.ensures.moves

pub loop-w-preserved : goal.loop-w-preserved
loop-w-preserved c =
    let been : let a = c.args in Been a.points a.s.now a.c c.onward-w.result a.out.now c.onward-w.new.out = c.onward-w.ensures.been _ _ _ c.requires.1 c.loop-w.invariant.2 c.loop-w.invariant.1 in
    let i = c.loop-w.invariant.2 in let f = c.onward-w.ensures.fewer in (c.onward-w.ensures.safe, been, omega arith, search rules)

pub returns : goal.returns
returns c =
    let a = c.args in
    let i = c.loop-w.invariant in
    let ended : Been a.points a.s.now a.c c.loop-w-test.w a.out.now c.loop-w-test.out = elim c.loop-w-test.branch [
      | else-loop-w-test w ↦ rw (w.w-is, w.out-is) i.1
      | then-loop-w-test+then-w-at w ↦ rw (w.w-is, w.out-is) (w.onward-w.ensures.been _ _ _ c.requires.1 i.2 i.1)
    ] in
    rw c.after_run.ensures (onward_end c.loop-w-test.w c.requires.1 ended)
