-- `table_lengths::past_last_lf` meets its contract: no LF stands from i on.
use Rattle.table_lengths.proofs.LengthLaws.{Scanned}
use Rattle.table_lengths.proofs.past_last_lf.Given as goal

abbrev pub invariant-loop-i : goal.invariant-loop-i
invariant-loop-i l = Scanned l.s l.at l.i
