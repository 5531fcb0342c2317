-- `table_numbers::number` meets its contract: the number of the value at a place whose entry is e, below a point's, and neither `?` nor a blank.
-- the entry where no digit and no sign stands: a pseudo-digit's
use mathlib.Core.Logic.{⊎_elim}
use Prim.Native.Nat.{◌<◌}
use native.Mathlib.Omega.{arith}
use Rattle.alphabet.specs.Standing.{digit_seen, digit_seen_not, blank_seen, blank_seen_not}
use Rattle.table_numbers.proofs.NumberLaws.{number_in, digit_late, plain_number, signed_number, packed_fits, packed_long, packed_token}
use Rattle.table_numbers.proofs.number.Goals as goal

pub returns-then-not-is_blank : goal.returns-then-not-is_blank
returns-then-not-is_blank c =
    let p = c.requires in
    digit_late _ _ _ p.0 c.if-e-lt-PAST_DIGITS.true p.2 (blank_seen_not _ _ c.standing.ensures c.is_blank.ensures (c.if-not-is_blank.true))

pub plain-requires : goal.plain-requires
plain-requires c = let p = c.requires in let z = number_in _ _ _ p.0 p.1 in omega arith

pub returns-then-e-lt-PAST_DIGITS : goal.returns-then-e-lt-PAST_DIGITS
returns-then-e-lt-PAST_DIGITS c =
    let p = c.requires in
    plain_number _ _ _ p.0 c.if-e-lt-PAST_DIGITS.true p.2 (blank_seen _ _ c.standing.ensures c.is_blank.ensures (c.if-not-is_blank.false))
    c.plain.result c.plain.ensures

pub overflow_add-next : goal.overflow_add-next
overflow_add-next c = let p = c.requires in let z = number_in _ _ _ p.0 p.1 in omega arith

pub plain-requires-then-e-ge-PLUS : goal.plain-requires-then-e-ge-PLUS
plain-requires-then-e-ge-PLUS c = let p = c.requires in let z = number_in _ _ _ p.0 p.1 in omega arith

pub returns-then-e-ge-PLUS : goal.returns-then-e-ge-PLUS
returns-then-e-ge-PLUS c = let p = c.requires in signed_number _ _ _ p.0 c.if-e-ge-PLUS.true p.1 c.plain-then-e-ge-PLUS.result c.plain-then-e-ge-PLUS.ensures

pub digits-r-requires : goal.digits-r-requires
digits-r-requires c =
    let packed : c.args.e < 96 = let h = c.if-e-ge-PLUS.false in ⊎_elim (λ x. x) (λ x. absurd (omega arith)) c.requires.3 in
    let p = c.requires in let z = number_in _ _ _ p.0 p.1 in
    (omega arith, rw c.further.ensures (packed_fits _ _ _ p.0 c.if-e-lt-PAST_DIGITS.false packed))

pub returns-then-is_digit : goal.returns-then-is_digit
returns-then-is_digit c =
    let packed : c.args.e < 96 = let h = c.if-e-ge-PLUS.false in ⊎_elim (λ x. x) (λ x. absurd (omega arith)) c.requires.3 in
    let p = c.requires in
    packed_long _ _ _ p.0 c.if-e-lt-PAST_DIGITS.false packed c.further.ensures c.digits-r.ensures.0
    (digit_seen _ _ c.digits-r.ensures.1 c.is_digit.ensures c.if-is_digit.true)

pub returns : goal.returns
returns c =
    let packed : c.args.e < 96 = let h = c.if-e-ge-PLUS.false in ⊎_elim (λ x. x) (λ x. absurd (omega arith)) c.requires.3 in
    let p = c.requires in
    packed_token _ _ _ p.0 c.if-e-lt-PAST_DIGITS.false packed c.further.ensures c.digits-r.ensures.0
    (digit_seen_not _ _ c.digits-r.ensures.1 c.is_digit.ensures c.if-is_digit.false)
