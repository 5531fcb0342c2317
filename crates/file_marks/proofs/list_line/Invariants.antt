-- `file_marks::list_line` meets its contract: of the list so much has stood, and the rest of the line is against what is left.
use mathlib.Core.Path.{◌≡◌}
use Prim.Native.Nat.{◌≤◌}
use lib.ListN.{length, drop}
use Rattle.file_spec.specs.Texts.{LIST, listed_as, listed_in}
use Rattle.file_marks.proofs.list_line.Given as goal

abbrev pub invariant-loop-i : goal.invariant-loop-i
invariant-loop-i l = (l.i ≤ length l.s) × (l.k ≤ 11) × (listed_in l.s ≡ listed_as (drop l.i l.s) l.i (drop l.k LIST))
