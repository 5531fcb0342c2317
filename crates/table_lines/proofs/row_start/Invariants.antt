-- `table_lines::row_start` meets its contract: the start of the next line that is not passed over.
use mathlib.Core.Path.{◌≡◌}
use Prim.Native.Nat.{◌-◌, ◌≤◌}
use lib.ListN.{length}
use Rattle.table_spec.specs.Reading.{fresh}
use Rattle.table_lines.specs.Seen.{seen}
use Rattle.table_lines.proofs.row_start.Given as goal

abbrev pub invariant-loop-from : goal.invariant-loop-from
invariant-loop-from l = (l.from ≤ l.at) × (l.at ≤ length l.s) × (seen l.s l.from fresh ≡ seen l.s l.at fresh)

abbrev pub decreases-loop-from : goal.decreases-loop-from
decreases-loop-from l = length l.s - l.at
