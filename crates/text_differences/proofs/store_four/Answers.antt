-- `text_differences::store_four` meets its contract: four digits from two pairs, the first written as `base` plus the digit.
use lib.ListN.{length-set}
use Rattle.text_differences.proofs.SmallSteps.{stored_four}
use borrow.Author.Rules.{rules}
use Rattle.text_differences.proofs.store_four.Goals as goal

pub bounds-out-at-2 : goal.bounds-out-at-2
bounds-out-at-2 c = simp length-set (search rules)

pub bounds-out-at-3 : goal.bounds-out-at-3
bounds-out-at-3 c = simp length-set (search rules)

pub returns : goal.returns
returns c =
    stored_four _ _ _ _ _ _ _ _ c.requires.2 c.tens-first.ensures c.ones-second.ensures c.tens-third.ensures c.ones-fourth.ensures
