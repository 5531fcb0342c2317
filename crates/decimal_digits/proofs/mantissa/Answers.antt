-- `mantissa` meets its contract: two runs of digits about a point; the laws are of Reading. Assumes nothing.
-- no digit stands after the whole number, nor after those behind the point
use mathlib.Core.Path.{sym, ◌∙◌}
use Prim.Native.Nat.{◌≤◌}
use native.Mathlib.Omega.{arith}
use lib.Dec.{lit<}
use Rattle.alphabet_spec.specs.Entries.{entry_at}
use Rattle.alphabet.specs.Standing.{digit_seen, digit_seen_not}
use Rattle.decimal_digits.proofs.Reading.{room, whole_long, no_point, behind_long, behind_run}
use Rattle.terms.specs.Places.{inside}
use Rattle.decimal_digits.proofs.mantissa.Goals as goal

pub returns-then-is_digit : goal.returns-then-is_digit
returns-then-is_digit c = let d = c.digits-whole.ensures in whole_long _ _ _ _ _ d.0 (digit_seen _ _ d.1 c.is_digit.ensures c.if-is_digit.true)

pub overflow_sub-n : goal.overflow_sub-n
overflow_sub-n c = let l = c.digits-whole.ensures.0.low in omega arith

pub returns-then-byte_at-ne46 : goal.returns-then-byte_at-ne46
returns-then-byte_at-ne46 c =
    let over : 16 ≤ entry_at c.args.s.now c.digits-whole.result.at = digit_seen_not _ _ c.digits-whole.ensures.1 c.is_digit.ensures c.if-is_digit.false in
    no_point _ _ _ _ _ c.digits-whole.ensures.0 over (λ y. c.if-byte_at-ne46.true (c.byte_at.ensures ∙ y)) _ c.mantissa_of.ensures

pub overflow_add-first : goal.overflow_add-first
overflow_add-first c =
    omega (arith, inside c.args.s.now _ 46 (sym c.byte_at.ensures ∙ c.if-byte_at-ne46.false) (lit< tt))

pub overflow_sub-left : goal.overflow_sub-left
overflow_sub-left c = let l = c.digits-whole.ensures.0.few in omega arith

pub digits-all-requires : goal.digits-all-requires
digits-all-requires c =
    let point = sym c.byte_at.ensures ∙ c.if-byte_at-ne46.false in
    (omega (arith, inside c.args.s.now _ 46 point (lit< tt)), room _ _ _ _ _ c.digits-whole.ensures.0)

pub returns-then-is_digit-2 : goal.returns-then-is_digit-2
returns-then-is_digit-2 c =
    let over : 16 ≤ entry_at c.args.s.now c.digits-whole.result.at = digit_seen_not _ _ c.digits-whole.ensures.1 c.is_digit.ensures c.if-is_digit.false in
    let point = sym c.byte_at.ensures ∙ c.if-byte_at-ne46.false in
    behind_long _ _ _ _ _ c.digits-whole.ensures.0 over point _ _ _ c.digits-all.ensures.0
    (digit_seen _ _ c.digits-all.ensures.1 c.is_digit-2.ensures c.if-is_digit-2.true)

pub overflow_sub-f : goal.overflow_sub-f
overflow_sub-f c = let l = c.digits-all.ensures.0.low in omega arith

pub overflow_add-count : goal.overflow_add-count
overflow_add-count c =
    let d = c.digits-all.ensures.0.high in let l = c.digits-whole.ensures.0.few in
    let m = c.digits-all.ensures.0.few in omega arith

pub returns : goal.returns
returns c =
    let over : 16 ≤ entry_at c.args.s.now c.digits-whole.result.at = digit_seen_not _ _ c.digits-whole.ensures.1 c.is_digit.ensures c.if-is_digit.false in
    let over_behind : 16 ≤ entry_at c.args.s.now c.digits-all.result.at = digit_seen_not _ _ c.digits-all.ensures.1 c.is_digit-2.ensures c.if-is_digit-2.false in
    let point = sym c.byte_at.ensures ∙ c.if-byte_at-ne46.false in
    behind_run _ _ _ _ _ c.digits-whole.ensures.0 over point _ _ _ c.digits-all.ensures.0 over_behind _ c.mantissa_of-2.ensures
