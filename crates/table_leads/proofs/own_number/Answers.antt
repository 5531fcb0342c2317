-- `table_owns::own_number` meets its contract: the number of the ordinate of its own at a place.
-- where one begins: the start of the code, and its first digit
use native.Mathlib.Omega.{arith}
use Rattle.alphabet.specs.Standing.{digit_seen_not}
use Rattle.table_leads.specs.Leads.{LeadAt}
use Rattle.table_leads.proofs.own_number.Goals as goal

pub first_digit-l-requires : goal.first_digit-l-requires
first_digit-l-requires c = let p = c.requires in let h = p.1 in (p.0, omega arith, p.2)

pub returns-then-l-gt9 : goal.returns-then-l-gt9
returns-then-l-gt9 c = λ l. absurd (omega arith)

pub digits_in-r-requires : goal.digits_in-r-requires
digits_in-r-requires c =
    let led : let r = c.first_digit-l.result in LeadAt c.args.s.now c.args.at c.args.b r.v r.at = let l = c.if-l-gt9.false in c.first_digit-l.ensures (omega arith) in
    let h = c.requires.1 in let n = led.near in let v = led.digit in (omega arith, omega arith)

pub returns-then-is_digit : goal.returns-then-is_digit
returns-then-is_digit c = λ l. absurd (omega arith)

pub returns : goal.returns
returns c =
    let led : let r = c.first_digit-l.result in LeadAt c.args.s.now c.args.at c.args.b r.v r.at = let l = c.if-l-gt9.false in c.first_digit-l.ensures (omega arith) in
    let n = c.digits_in-r.ensures in
    λ l. led.token _ _ n.0 (digit_seen_not _ _ n.1 c.is_digit.ensures c.if-is_digit.false)
