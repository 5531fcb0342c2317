-- `ordinate_tally::tally_up` meets its contract: from the last to the first, what is added up is what the ordinates from there on come to.
use mathlib.Core.List.{map}
use lib.ListN.{take}
use Rattle.table_spec.specs.Frame.{ordinate_of}
use Rattle.ordinate_tally.proofs.TallyLaws.{Far}
use Rattle.ordinate_tally.proofs.tally_up.Given as goal

abbrev pub invariant-loop-k : goal.invariant-loop-k
invariant-loop-k l = Far l.n (take l.n (map ordinate_of l.ys)) l.t l.k
