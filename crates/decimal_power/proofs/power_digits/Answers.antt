-- `power_digits` meets its contract: the digits of an exponent; the laws are of Reading. Assumes nothing.
-- no digit stands after them
use mathlib.Core.Path.{refl}
use Prim.Native.Nat.{◌≤◌}
use native.Mathlib.Omega.{arith}
use Rattle.alphabet_spec.specs.Entries.{entry_at}
use Rattle.alphabet.specs.Standing.{digit_seen, digit_seen_not}
use Rattle.decimal_power.proofs.Reading.{power_long, power_short, power_large, power_is}
use Rattle.decimal_power.proofs.power_digits.Goals as goal

pub returns-then-is_digit : goal.returns-then-is_digit
returns-then-is_digit c = let d = c.digits-all.ensures in power_long _ _ _ _ _ _ d.0 (digit_seen _ _ d.1 c.is_digit.ensures c.if-is_digit.true)

pub overflow_sub-end : goal.overflow_sub-end
overflow_sub-end c = let l = c.digits-all.ensures.0.low in omega arith

pub returns-then-end-at-lt2 : goal.returns-then-end-at-lt2
returns-then-end-at-lt2 c =
    let over : 16 ≤ entry_at c.args.s.now c.digits-all.result.at = digit_seen_not _ _ c.digits-all.ensures.1 c.is_digit.ensures c.if-is_digit.false in
    power_short _ _ _ _ _ _ c.digits-all.ensures.0 over c.if-end-at-lt2.true

pub returns-then-x-gt99 : goal.returns-then-x-gt99
returns-then-x-gt99 c =
    let over : 16 ≤ entry_at c.args.s.now c.digits-all.result.at = digit_seen_not _ _ c.digits-all.ensures.1 c.is_digit.ensures c.if-is_digit.false in
    power_large _ _ _ _ _ _ c.digits-all.ensures.0 over c.if-end-at-lt2.false c.if-x-gt99.true

pub returns-then-minus : goal.returns-then-minus
returns-then-minus c =
    let over : 16 ≤ entry_at c.args.s.now c.digits-all.result.at = digit_seen_not _ _ c.digits-all.ensures.1 c.is_digit.ensures c.if-is_digit.false in
    power_is _ _ _ _ _ _ c.digits-all.ensures.0 over c.if-end-at-lt2.false c.if-x-gt99.false _ (rw c.if-minus.true refl)

pub returns-else-minus : goal.returns-else-minus
returns-else-minus c =
    let over : 16 ≤ entry_at c.args.s.now c.digits-all.result.at = digit_seen_not _ _ c.digits-all.ensures.1 c.is_digit.ensures c.if-is_digit.false in
    power_is _ _ _ _ _ _ c.digits-all.ensures.0 over c.if-end-at-lt2.false c.if-x-gt99.false _ (rw c.if-minus.false refl)
