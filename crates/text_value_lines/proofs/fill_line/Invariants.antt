-- `text_value_lines::fill_line` meets its contract: the values that fit on the line, one after the other.
use mathlib.Core.List.{map}
use Rattle.table_spec.specs.Frame.{ordinate_of}
use Rattle.text_marks.specs.Shows.{shown}
use Rattle.text_value_lines.specs.Lines.{Filling}
use Rattle.text_value_lines.proofs.fill_line.Given as goal

abbrev pub invariant-loop-i : goal.invariant-loop-i
invariant-loop-i l = Filling (shown l.m) (map ordinate_of l.ys) l.initial.i l.initial.at l.line l.initial.out l.out l.i l.at
