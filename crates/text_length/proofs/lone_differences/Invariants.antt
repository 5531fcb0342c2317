-- `text_length::lone_differences` meets its contract: points in DIF form without DUP, after one in DIF form, as long as they fit on the line.
use Prim.Native.Nat.{◌-◌}
use Rattle.table_text.specs.Pieces.{ordinates}
use Rattle.text_differences.proofs.LoneSteps.{LoneTo}
use Rattle.text_length.proofs.lone_differences.Given as goal

abbrev pub invariant-loop-next : goal.invariant-loop-next
invariant-loop-next l = LoneTo (ordinates l.ys) l.s (l.next - 1) l.p l.column l.y l.next
