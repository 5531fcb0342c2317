-- `profile_told::store_numbers` meets its contract: one entry after the other, as far as there is room.
use Rattle.profile_told.proofs.ToldTurns.{Storing}
use Rattle.profile_told.proofs.store_numbers.Given as goal

abbrev pub invariant-loop-i : goal.invariant-loop-i
invariant-loop-i l = Storing l.numbers l.initial.out l.out l.i
