-- `label::find_record` meets its contract: no record passed has the name.
use Prim.Native.Nat.{◌-◌}
use lib.ListN.{length}
use Rattle.label_spec.specs.Names.{norm}
use Rattle.label.proofs.RecordTurns.{Unfound}
use Rattle.label.proofs.find_record.Given as goal

abbrev pub invariant-loop-start : goal.invariant-loop-start
invariant-loop-start l = Unfound l.part l.start l.stop (norm l.name) l.at

abbrev pub decreases-loop-start : goal.decreases-loop-start
decreases-loop-start l = length l.part - l.at
