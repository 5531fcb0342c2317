-- `table_text::digits::put_digits` meets its contract: the n further digits of v from the right; its first digit, which is what is left.
use Rattle.table_text.specs.Digits.{Digits}
use Rattle.table_text.proofs.digits.put_digits.Given as goal

abbrev pub invariant-loop-i : goal.invariant-loop-i
invariant-loop-i l = Digits l.v l.n l.at l.initial.out l.out l.w l.i
