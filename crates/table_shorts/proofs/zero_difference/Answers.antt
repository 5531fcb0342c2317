-- `table_shorts::zero_difference` meets its contract: the difference 0, if it stands at the place.
use mathlib.Core.Path.{ap}
use mathlib.Core.Logic.{inl, inr}
use native.Mathlib.Omega.{arith}
use Rattle.alphabet.specs.declared.Run.{Run}
use Rattle.alphabet.specs.Standing.{digit_seen_not}
use Rattle.table_shorts.proofs.Shorts.{zero_short}
use Rattle.table_shorts.proofs.zero_difference.Goals as goal

pub returns-then-b-ne-PERCENT : goal.returns-then-b-ne-PERCENT
returns-then-b-ne-PERCENT c = inl (ap (λ (r : Run). r.at) c.nothing.ensures)

pub returns-then-is_digit : goal.returns-then-is_digit
returns-then-is_digit c = inl (ap (λ (r : Run). r.at) c.nothing-then-is_digit.ensures)

pub returns : goal.returns
returns c =
    let p = c.requires in let l = p.0 in
    inr (zero_short _ _ (omega arith) p.1 c.if-b-ne-PERCENT.false (digit_seen_not _ _ c.standing_in-x.ensures c.is_digit.ensures c.if-is_digit.false) (omega arith))
