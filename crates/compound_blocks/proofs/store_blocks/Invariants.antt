-- `compound_blocks::store_blocks` meets its contract: what is left to be stored makes the slice what it is to be.
use mathlib.Core.Path.{◌≡◌}
use mathlib.Core.Bool.{false}
use Prim.Native.Nat.{◌+◌, ◌-◌}
use lib.ListN.{length}
use lib.Seq.{sets}
use Rattle.label_spec.specs.Labels.{from}
use Rattle.compound_spec.specs.Answers.{entries}
use Rattle.compound_law.specs.Flat.{plain, flat}
use Rattle.compound_blocks.proofs.PassTurns.{Pass}
use Rattle.compound_blocks.proofs.store_blocks.Given as goal

abbrev pub invariant-loop-left : goal.invariant-loop-left
invariant-loop-left l =
    (length l.blocks ≡ length l.initial.blocks)
    × Pass l.file (sets l.initial.blocks 0 (entries l.file (flat l.file (from l.file (l.eq + 1) false) l.n (plain l.title l.eq)))) l.blocks l.at l.head l.start l.unlinked l.i l.left

abbrev pub decreases-loop-left : goal.decreases-loop-left
decreases-loop-left l = length l.file - l.at
