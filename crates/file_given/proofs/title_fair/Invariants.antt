-- `file_given::title_fair` meets its contract: each byte is looked at once, with the one after it.
use mathlib.Core.Path.{◌≡◌}
use Prim.Native.Nat.{◌≤◌}
use lib.ListN.{length, drop}
use Rattle.file_write_spec.specs.File.{title_legal}
use Rattle.file_given.specs.Titles.{clean}
use Rattle.file_given.proofs.title_fair.Given as goal

abbrev pub invariant-loop-i : goal.invariant-loop-i
invariant-loop-i l = (l.i ≤ length l.title) × (title_legal l.title ≡ clean (drop l.i l.title))
