-- `text_digits::store_number` meets its contract: the pairs of digits, and what is left, whose first digit is written as `base` plus the digit.
use mathlib.Core.Path.{refl}
use lib.ListN.{length-set}
use Rattle.text_digits.proofs.DigitSteps.{number_either}
use borrow.Author.Rules.{rules}
use Rattle.text_digits.proofs.store_number.Goals as goal

pub bounds-out-at : goal.bounds-out-at
bounds-out-at c = simp length-set (search rules)

pub returns : goal.returns
returns c =
    let p = c.requires in
    number_either _ _ _ _ _ p.1.digits c.store_pairs-w.ensures.0 p.1.least c.ones-second.ensures c.lead_of-lead.ensures.0 refl
