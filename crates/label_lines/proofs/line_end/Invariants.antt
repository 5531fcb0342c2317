-- `label_lines::line_end` meets its contract: no LF has come up to i.
use Prim.Native.Nat.{◌-◌}
use lib.ListN.{length}
use Rattle.label_lines.proofs.LineTurns.{Along}
use Rattle.label_lines.proofs.line_end.Given as goal

abbrev pub invariant-loop-i : goal.invariant-loop-i
invariant-loop-i l = Along l.s l.at l.i

abbrev pub decreases-loop-i : goal.decreases-loop-i
decreases-loop-i l = length l.s - l.i
