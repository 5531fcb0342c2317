-- `text_digits::store_pairs` meets its contract: the further digits of v two at a time from the right, and what is left of v.
use mathlib.Core.Path.{◌≡◌}
use Prim.Native.Nat.{◌%◌, ◌≤◌}
use Rattle.table_text.specs.Digits.{Digits}
use Rattle.text_digits.proofs.store_pairs.Given as goal

abbrev pub invariant-loop-j : goal.invariant-loop-j
invariant-loop-j l = Digits l.v l.n l.at l.initial.out l.out l.w l.j × (l.w ≤ l.v) × (l.j % 2 ≡ l.n % 2)

abbrev pub decreases-loop-j : goal.decreases-loop-j
decreases-loop-j l = l.j
