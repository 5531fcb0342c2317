-- `table_lengths::long_line` meets its contract: no line before `at` is too long.
use mathlib.Core.Path.{◌≡◌}
use mathlib.Core.Bool.{true}
use Prim.Native.Nat.{◌-◌, ◌≤◌}
use lib.ListN.{length}
use Rattle.table_spec.specs.Reading.{long_line}
use Rattle.table_lengths.specs.Lengths.{long_from}
use Rattle.table_lengths.proofs.long_line.Given as goal

abbrev pub invariant-loop-at : goal.invariant-loop-at
invariant-loop-at l = (l.at ≤ length l.s) × (long_line true 0 l.s ≡ long_from l.s l.at)

abbrev pub decreases-loop-at : goal.decreases-loop-at
decreases-loop-at l = length l.s - l.at
