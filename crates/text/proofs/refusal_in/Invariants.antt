-- `text::refusal_in` meets its contract: the line and the column that were counted are those of the place.
use Rattle.text.proofs.Counting.{Counted}
use Rattle.text.proofs.refusal_in.Given as goal

abbrev pub invariant-loop-b : goal.invariant-loop-b
invariant-loop-b l = Counted l.s l.end l.line l.column l.b-index
