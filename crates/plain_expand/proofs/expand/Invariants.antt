-- `plain_expand::expand` meets its contract: the row grows value by value, and is laid.
use Prim.Native.Nat.{◌-◌}
use lib.ListN.{length}
use Rattle.plain_expand.proofs.GrowLaws.{Growing}
use Rattle.plain_expand.proofs.expand.Given as goal

abbrev pub invariant-loop-j : goal.invariant-loop-j
invariant-loop-j l = Growing l.points l.s l.initial.r l.initial.out l.out l.r

abbrev pub decreases-loop-j : goal.decreases-loop-j
decreases-loop-j l = length l.s - l.r.at
