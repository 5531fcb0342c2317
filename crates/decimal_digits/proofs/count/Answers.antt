-- `count` meets its contract: digits only; the laws are of Reading. Assumes nothing.
-- no digit stands after them
use Prim.Native.Nat.{◌≤◌}
use Rattle.alphabet_spec.specs.Entries.{entry_at}
use Rattle.alphabet.specs.Standing.{digit_seen, digit_seen_not}
use Rattle.decimal_digits.proofs.Reading.{count_long, count_none, count_large, count_is}
use Rattle.decimal_digits.proofs.count.Goals as goal

pub returns-then-is_digit : goal.returns-then-is_digit
returns-then-is_digit c = let d = c.digits-all.ensures in count_long _ _ _ _ _ d.0 (digit_seen _ _ d.1 c.is_digit.ensures c.if-is_digit.true)

pub returns-then-end-at : goal.returns-then-end-at
returns-then-end-at c =
    let over : 16 ≤ entry_at c.args.s.now c.digits-all.result.at = digit_seen_not _ _ c.digits-all.ensures.1 c.is_digit.ensures c.if-is_digit.false in
    let d = c.digits-all.ensures in count_none _ _ _ _ _ d.0 over c.if-end-at.true

pub returns-then-v-ge-BOUND : goal.returns-then-v-ge-BOUND
returns-then-v-ge-BOUND c =
    let over : 16 ≤ entry_at c.args.s.now c.digits-all.result.at = digit_seen_not _ _ c.digits-all.ensures.1 c.is_digit.ensures c.if-is_digit.false in
    let d = c.digits-all.ensures in count_large _ _ _ _ _ d.0 over c.if-end-at.false c.if-v-ge-BOUND.true

pub returns : goal.returns
returns c =
    let over : 16 ≤ entry_at c.args.s.now c.digits-all.result.at = digit_seen_not _ _ c.digits-all.ensures.1 c.is_digit.ensures c.if-is_digit.false in
    let d = c.digits-all.ensures in count_is _ _ _ _ _ d.0 over c.if-end-at.false c.if-v-ge-BOUND.false
