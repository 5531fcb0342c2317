-- `alphabet::digits_in` meets its contract: so far the bytes were digits, as many as may be taken.
use Rattle.alphabet.specs.Ran.{Running}
use Rattle.alphabet.proofs.digits_in.Given as goal

abbrev pub invariant-loop-i : goal.invariant-loop-i
invariant-loop-i l = Running l.s l.from l.v l.most l.w l.i
