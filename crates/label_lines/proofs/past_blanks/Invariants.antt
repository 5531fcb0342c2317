-- `label_lines::past_blanks` meets its contract: only blanks were passed.
use Rattle.label_lines.proofs.LineTurns.{Blanks}
use Rattle.label_lines.proofs.past_blanks.Given as goal

abbrev pub invariant-loop-i : goal.invariant-loop-i
invariant-loop-i l = Blanks l.s l.at l.i
