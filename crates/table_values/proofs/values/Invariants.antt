-- `table_values::values` meets its contract: the values of a line, from a place on, with k points given; the first must equal `want`, if that is not 0.
use mathlib.Core.Path.{◌≡◌}
use Prim.Native.Nat.{◌-◌}
use lib.ListN.{length}
use Rattle.table_value.specs.States.{Went}
use Rattle.table_values.proofs.Walks.{first_state}
use Rattle.table_values.proofs.values.Given as goal

abbrev pub invariant-loop-d : goal.invariant-loop-d
invariant-loop-d l = Went l.points l.s (first_state l.at l.k l.want) l.c l.initial.out l.out × (length l.out ≡ length l.initial.out)

abbrev pub decreases-loop-d : goal.decreases-loop-d
decreases-loop-d l = length l.s - l.c.at
