-- `file_gather::gather` meets its contract: the seven records in the order that 25 lists, or that one is lacking.
use Prim.Native.Nat.{◌-◌}
use Rattle.file_gather.proofs.GatherLaws.{Gathers}
use Rattle.file_gather.proofs.gather.Given as goal

abbrev pub invariant-loop-k : goal.invariant-loop-k
invariant-loop-k l = Gathers l.file l.start l.stop l.k l.texts

abbrev pub decreases-loop-k : goal.decreases-loop-k
decreases-loop-k l = 7 - l.k
