-- `text_length::count_line` meets its contract: the groups that fit on the line.
use Prim.Native.Nat.{◌-◌}
use lib.ListN.{length}
use Rattle.table_text.specs.Pieces.{ordinates}
use Rattle.text_openings.specs.Lines.{Counted}
use Rattle.text_length.proofs.count_line.Given as goal

abbrev pub invariant-loop-r : goal.invariant-loop-r
invariant-loop-r l = Counted (ordinates l.ys) l.initial.r l.r

abbrev pub decreases-loop-r : goal.decreases-loop-r
decreases-loop-r l = length l.ys - l.r.given
