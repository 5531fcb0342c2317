-- `compound_names::own_known` meets its contract: mark by mark, up to the label's own.
use Prim.Native.Nat.{◌-◌}
use lib.ListN.{length}
use Rattle.label_spec.specs.Names.{name_in}
use Rattle.compound_names.proofs.NameScan.{Near}
use Rattle.compound_names.proofs.own_known.Given as goal

abbrev pub invariant-loop-start : goal.invariant-loop-start
invariant-loop-start l = Near l.s l.start l.mark (name_in l.s l.name l.eq) l.at l.depth

abbrev pub decreases-loop-start : goal.decreases-loop-start
decreases-loop-start l = length l.s - l.at
