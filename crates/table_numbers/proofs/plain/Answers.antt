-- `table_numbers::plain` meets its contract: the number of the digits from a place on, at most ten.
use mathlib.Core.Logic.{inl, inr}
use native.Mathlib.Omega.{arith}
use Rattle.alphabet.specs.Standing.{digit_seen, digit_seen_not}
use Rattle.table_numbers.proofs.plain.Goals as goal

pub returns-then-is_digit : goal.returns-then-is_digit
returns-then-is_digit c =
    let d = c.digits-r in
    record { number = d.result.v; place = d.result.at; run = d.ensures.0; wrong = inr (digit_seen _ _ d.ensures.1 c.is_digit.ensures c.if-is_digit.true) }

pub returns-then-r-from : goal.returns-then-r-from
returns-then-r-from c = let d = c.digits-r in record { number = d.result.v; place = d.result.at; run = d.ensures.0; wrong = inl c.if-r-from.true }

pub returns : goal.returns
returns c =
    let d = c.digits-r.ensures in let l = d.0.low in let n = c.if-r-from.false in
    (d.0, omega (arith, n), digit_seen_not _ _ d.1 c.is_digit.ensures c.if-is_digit.false)
