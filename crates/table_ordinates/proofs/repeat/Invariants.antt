-- `table_ordinates::repeat` meets its contract: stores n ordinates, each a step from the one before.
use Prim.Native.Nat.{◌+◌, ◌-◌}
use Rattle.table_ordinates.proofs.Repeats.{Repeating}
use Rattle.table_ordinates.proofs.repeat.Given as goal

abbrev pub invariant-loop-i : goal.invariant-loop-i
invariant-loop-i l = Repeating l.initial.out l.out l.k l.q l.n l.i l.u (l.k + l.n - l.i) l.minus l.d
