-- `label_lines::next_mark` meets its contract: the lines passed have no `##` first.
use Prim.Native.Nat.{◌-◌}
use lib.ListN.{length}
use Rattle.label_lines.proofs.LineTurns.{Along}
use Rattle.label_lines.proofs.next_mark.Given as goal

abbrev pub invariant-loop-at : goal.invariant-loop-at
invariant-loop-at l = Along l.s l.at l.i

abbrev pub decreases-loop-at : goal.decreases-loop-at
decreases-loop-at l = length l.s - l.i
