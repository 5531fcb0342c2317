-- `alphabet::digits` meets its contract: the digits from a place on, after the number v.
use Rattle.alphabet.specs.Ran.{Running}
use Rattle.alphabet.proofs.digits.Given as goal

abbrev pub invariant-loop-i : goal.invariant-loop-i
invariant-loop-i l = Running l.s l.from l.v l.most l.w l.i
