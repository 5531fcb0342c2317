-- `text_differences::put_lone` meets its contract: differences that stand alone, stored as long as they fit on the line.
use Prim.Native.Nat.{◌-◌}
use Rattle.table_text.specs.Pieces.{ordinates}
use Rattle.text_openings.specs.Lines.{difference_state}
use Rattle.text_differences.specs.Stored.{Stored}
use Rattle.text_differences.proofs.LoneSteps.{LoneTo}
use Rattle.text_differences.proofs.put_lone.Given as goal

abbrev pub invariant-loop-next : goal.invariant-loop-next
invariant-loop-next l = LoneTo (ordinates l.ys) l.s (l.next - 1) l.p l.column l.y l.next × Stored (ordinates l.ys) l.s l.initial.out l.out (difference_state l.s (l.next - 1) l.p l.column)
