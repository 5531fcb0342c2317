-- `label_space::past_space` meets its contract: what is passed is blank, line end or comment.
use Rattle.label_space.proofs.SpaceTurns.{Gone}
use Rattle.label_space.proofs.past_space.Given as goal

abbrev pub invariant-loop-i : goal.invariant-loop-i
invariant-loop-i l = Gone l.s l.at l.i l.inside
