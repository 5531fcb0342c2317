-- `table_text::digits::further_digits` meets its contract: how many digits follow the first one of a number.
use Prim.Native.Nat.{◌-◌}
use Rattle.table_text.specs.Digits.{Counting}
use Rattle.table_text.proofs.digits.further_digits.Given as goal

abbrev pub invariant-loop-limit : goal.invariant-loop-limit
invariant-loop-limit l = Counting l.v l.n l.limit

abbrev pub decreases-loop-limit : goal.decreases-loop-limit
decreases-loop-limit l = 10 - l.n
