-- `night_report::whole_night` meets its contract: at each turn the totals so far and the rest of the spool come to what the whole spool comes to.
use Rattle.night_report.proofs.WalkLaws.{Walked}
use Rattle.night_report.proofs.whole_night.Given as goal

abbrev pub invariant-loop-from : goal.invariant-loop-from
invariant-loop-from l = Walked l.spool l.initial.out l.at l.left l.totals l.out

abbrev pub decreases-loop-from : goal.decreases-loop-from
decreases-loop-from l = l.left
