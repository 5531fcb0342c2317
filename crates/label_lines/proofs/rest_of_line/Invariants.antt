-- `label_lines::rest_of_line` meets its contract: no LF has come up to i.
use Rattle.label_lines.proofs.LineTurns.{Along}
use Rattle.label_lines.proofs.rest_of_line.Given as goal

abbrev pub invariant-loop-i : goal.invariant-loop-i
invariant-loop-i l = Along l.s l.at l.i
