-- `label_walk::walk` meets its contract: the outer scan's invariant is `Far`, the inner one's `Near`; each turn is a lemma of WalkTurns.
use Prim.Native.Nat.{◌-◌}
use lib.ListN.{length}
use Rattle.label_spec.specs.Names.{name_in}
use Rattle.label_walk.proofs.WalkTurns.{Far}
use Rattle.label_walk.proofs.WalkTurns.{Near}
use Rattle.label_walk.proofs.walk.Given as goal

abbrev pub invariant-loop-at : goal.invariant-loop-at
invariant-loop-at l = Near l.part l.start l.mark (name_in l.part l.name l.eq) l.from

abbrev pub decreases-loop-at : goal.decreases-loop-at
decreases-loop-at l = length l.part - l.from

abbrev pub invariant-walk : goal.invariant-walk
invariant-walk l = Far l.part l.start l.at

abbrev pub decreases-walk : goal.decreases-walk
decreases-walk l = length l.part - l.at
