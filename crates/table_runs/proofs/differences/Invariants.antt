-- `table_runs::differences` meets its contract: THE HOT LOOP.
use mathlib.Core.Path.{◌≡◌}
use Prim.Native.Nat.{◌+◌, ◌-◌, ◌≤◌}
use lib.ListN.{length}
use Rattle.table_steps.specs.Ways.{left, Safe, Been}
use Rattle.table_runs.proofs.differences.Given as goal

abbrev pub invariant-loop-w : goal.invariant-loop-w
invariant-loop-w l = Safe l.s l.w × Been l.points l.s l.c l.w l.initial.out l.out × (l.w.k + left l.w ≤ l.points) × (length l.out ≡ length l.initial.out)

abbrev pub decreases-loop-w : goal.decreases-loop-w
decreases-loop-w l = l.points - l.w.k
