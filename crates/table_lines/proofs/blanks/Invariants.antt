-- `table_lines::blanks` meets its contract: the first place from here on where no blank stands.
use mathlib.Core.Path.{◌≡◌}
use Prim.Native.Nat.{ℕ, ◌-◌, ◌<◌, ◌≤◌}
use lib.ListN.{length}
use Rattle.alphabet_spec.specs.Entries.{entry_at}
use Rattle.table_spec.specs.Reading.{fresh, inner}
use Rattle.table_lines.specs.Seen.{seen, behind}
use Rattle.table_lines.proofs.blanks.Given as goal

abbrev pub invariant-loop-i : goal.invariant-loop-i
invariant-loop-i l =
    (l.from ≤ l.i) × (l.i ≤ length l.s) × (seen l.s l.from fresh ≡ seen l.s l.i fresh) × (seen l.s l.from (inner (behind l.s l.from)) ≡ seen l.s l.i (inner (behind l.s l.i)))
    × ((k : ℕ) → l.from ≤ k → k < l.i → entry_at l.s k ≡ 112)

abbrev pub decreases-loop-i : goal.decreases-loop-i
decreases-loop-i l = length l.s - l.i
