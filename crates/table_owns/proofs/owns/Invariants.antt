-- `table_owns::owns` meets its contract: the ordinates of their own that stand one after the other.
use mathlib.Core.Path.{◌≡◌}
use Prim.Native.Nat.{◌-◌}
use lib.ListN.{length}
use Rattle.table_owns.specs.Ways.{Been}
use Rattle.table_owns.proofs.owns.Given as goal

abbrev pub invariant-loop-k : goal.invariant-loop-k
invariant-loop-k l = Been l.points l.s l.c l.at l.k l.q l.initial.out l.out × (length l.out ≡ length l.initial.out)

abbrev pub decreases-loop-k : goal.decreases-loop-k
decreases-loop-k l = l.points - l.k
