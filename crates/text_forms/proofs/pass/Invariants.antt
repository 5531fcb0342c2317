-- `text_forms::pass` meets its contract: the whole text from the start of the lent bytes.
use Prim.Native.Nat.{◌-◌}
use lib.ListN.{length}
use Rattle.table_text.specs.Pieces.{head_of, ordinates}
use Rattle.text_openings.specs.Lines.{Going}
use Rattle.text_forms.proofs.pass.Given as goal

abbrev pub invariant-loop-s : goal.invariant-loop-s
invariant-loop-s l = Going (head_of l.fr) (ordinates l.ys) l.initial.text l.initial.s l.text l.s l.s.given

abbrev pub decreases-loop-s : goal.decreases-loop-s
decreases-loop-s l = length l.ys - l.s.given
