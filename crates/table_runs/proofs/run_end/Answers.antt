-- `table_runs::run_end` meets its contract: before which place a run takes values.
-- no more than are left, and no more than a run takes
use Prim.Native.Nat.{◌≤◌}
use native.Mathlib.Omega.{arith}
use Rattle.table_runs.proofs.run_end.Goals as goal
use Rattle.table_runs.proofs.run_end.Goals.{then-left-gt-MOST, else-left-gt-MOST}

pub returns-then-past-at : goal.returns-then-past-at
returns-then-past-at c =
    let few : (c.if-left-gt-MOST.most ≤ c.args.left) × (c.if-left-gt-MOST.most ≤ 1000) = elim c.if-left-gt-MOST.branch [ then-left-gt-MOST w ↦ (omega arith, omega arith) | else-left-gt-MOST w ↦ (omega arith, omega arith) ] in
    let f = few in let x = f.0 in let y = f.1 in let l = c.if-past-at.true in let p = c.requires in (omega arith, omega arith, omega arith)

pub returns : goal.returns
returns c =
    let few : (c.if-left-gt-MOST.most ≤ c.args.left) × (c.if-left-gt-MOST.most ≤ 1000) = elim c.if-left-gt-MOST.branch [ then-left-gt-MOST w ↦ (omega arith, omega arith) | else-left-gt-MOST w ↦ (omega arith, omega arith) ] in
    let f = few in let x = f.0 in let y = f.1 in let l = c.if-past-at.false in let p = c.requires in (omega arith, omega arith, omega arith)
