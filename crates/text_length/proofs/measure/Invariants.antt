-- `text_length::measure` meets its contract: the text's length.
use Prim.Native.Nat.{◌-◌, ◌<◌, ◌≤◌}
use lib.ListN.{length}
use Rattle.table_text.specs.Pieces.{head_of, ordinates}
use Rattle.text_openings.specs.Lines.{Going}
use Rattle.text_length.proofs.measure.Given as goal

abbrev pub invariant-loop-s : goal.invariant-loop-s
invariant-loop-s l = Going (head_of l.fr) (ordinates l.ys) l.initial.none l.initial.s l.none l.s l.s.given × (l.s.given < length l.ys → l.s.column ≤ 60)

abbrev pub decreases-loop-s : goal.decreases-loop-s
decreases-loop-s l = length l.ys - l.s.given
