-- `text_differences::put_small` meets its contract: a number of at most four digits in four bytes.
use Rattle.text_differences.proofs.SmallSteps.{over_small}
use Rattle.text_differences.proofs.put_small.Goals as goal

pub returns : goal.returns
returns c =
    over_small _ _ _ _ c.requires.2 c.scaled-w.ensures.0 c.store_four.ensures
