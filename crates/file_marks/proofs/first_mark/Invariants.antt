-- `file_marks::first_mark` meets its contract: what is passed is blanks and line ends.
use mathlib.Core.Path.{◌≡◌}
use Prim.Native.Nat.{◌≤◌}
use lib.ListN.{length, drop}
use Rattle.file_spec.specs.Texts.{first_mark, mark_in}
use Rattle.file_marks.proofs.first_mark.Given as goal

abbrev pub invariant-loop-i : goal.invariant-loop-i
invariant-loop-i l = (l.i ≤ length l.s) × (mark_in l.s ≡ first_mark (drop l.i l.s) l.i)
