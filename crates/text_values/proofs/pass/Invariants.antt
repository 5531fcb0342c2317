-- `text_values::pass` meets its contract: one line after the other, each its head, the values that fit, and its end.
use mathlib.Core.List.{map}
use Prim.Native.Nat.{◌-◌}
use lib.ListN.{length}
use Rattle.table_spec.specs.Frame.{ordinate_of}
use Rattle.table_text.specs.Pieces.{head_of}
use Rattle.text_marks.specs.Shows.{shown}
use Rattle.text_value_lines.specs.Lines.{Going}
use Rattle.text_values.proofs.pass.Given as goal

abbrev pub invariant-loop-i : goal.invariant-loop-i
invariant-loop-i l = Going (shown l.m) (head_of l.fr) (map ordinate_of l.ys) l.initial.text l.text l.i l.at

abbrev pub decreases-loop-i : goal.decreases-loop-i
decreases-loop-i l = length l.ys - l.i
