-- `compound_walk::walk_block` meets its contract: label by label; an inner block by its own contract, with one depth less left.
use Prim.Native.Nat.{◌-◌}
use lib.ListN.{length}
use Rattle.compound_walk.specs.Turns.{Gone}
use Rattle.compound_walk.proofs.+walk_block.Given as goal

abbrev pub invariant-loop-mark : goal.invariant-loop-mark
invariant-loop-mark l = Gone l.s l.title l.eq l.left l.at l.own l.count

abbrev pub decreases-loop-mark : goal.decreases-loop-mark
decreases-loop-mark l = length l.s - l.at

abbrev pub decreases-walk_block : goal.decreases-walk_block
decreases-walk_block l = l.left
