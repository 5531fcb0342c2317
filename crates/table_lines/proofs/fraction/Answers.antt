-- `table_lines::fraction` meets its contract: after the whole number of a head, which was read as w.
-- a point stands after the whole number
use mathlib.Core.Bool.{true}
use mathlib.Core.Path.{◌≡◌, refl, sym, ◌∙◌}
use native.Mathlib.Omega.{arith}
use Rattle.alphabet_spec.specs.Entries.{entry_at}
use Rattle.alphabet.specs.Standing.{digit_seen, digit_seen_not, point_stands, point_stood}
use Rattle.table_lines.proofs.LineEnds.{inside_text}
use Rattle.table_lines.proofs.HeadLaws.{whole_only, fraction_long, fraction_small, fraction_read}
use Rattle.table_lines.proofs.fraction.Goals as goal

pub returns-then-w-ne-FULL_STOP : goal.returns-then-w-ne-FULL_STOP
returns-then-w-ne-FULL_STOP c = let p = c.requires in rw c.abscissa.ensures (whole_only _ p.0 refl p.2 (λ x. c.if-w-ne-FULL_STOP.true (p.1 ∙ point_stood _ _ x)))

pub digits-f-requires : goal.digits-f-requires
digits-f-requires c =
    let pointed_at : entry_at c.args.s.now c.args.w.at ≡ 160 = point_stands _ _ (sym c.requires.1 ∙ c.if-w-ne-FULL_STOP.false) in
    let p = c.requires in let l = inside_text _ _ _ pointed_at (omega arith) in (omega arith, omega arith)

pub returns-then-is_digit : goal.returns-then-is_digit
returns-then-is_digit c =
    let pointed_at : entry_at c.args.s.now c.args.w.at ≡ 160 = point_stands _ _ (sym c.requires.1 ∙ c.if-w-ne-FULL_STOP.false) in
    fraction_long _ pointed_at c.digits-f.ensures.0 true (digit_seen _ _ c.digits-f.ensures.1 c.is_digit.ensures c.if-is_digit.true)

pub overflow_sub-end : goal.overflow_sub-end
overflow_sub-end c = let l = c.digits-f.ensures.0.low in omega arith

pub worth-unit-requires : goal.worth-unit-requires
worth-unit-requires c = let l = c.digits-f.ensures.0.few in omega arith

pub overflow_mul-size : goal.overflow_mul-size
overflow_mul-size c =
    let pointed_at : entry_at c.args.s.now c.args.w.at ≡ 160 = point_stands _ _ (sym c.requires.1 ∙ c.if-w-ne-FULL_STOP.false) in
    let p = c.requires in
    let z = fraction_small _ pointed_at c.digits-f.ensures.0 p.2 in
    rw c.worth-unit.ensures (omega arith)

pub abscissa-requires-2 : goal.abscissa-requires-2
abscissa-requires-2 c =
    let pointed_at : entry_at c.args.s.now c.args.w.at ≡ 160 = point_stands _ _ (sym c.requires.1 ∙ c.if-w-ne-FULL_STOP.false) in
    let p = c.requires in
    rw c.worth-unit.ensures (fraction_small _ pointed_at c.digits-f.ensures.0 p.2)

pub returns : goal.returns
returns c =
    let pointed_at : entry_at c.args.s.now c.args.w.at ≡ 160 = point_stands _ _ (sym c.requires.1 ∙ c.if-w-ne-FULL_STOP.false) in
    let p = c.requires in
    rw (c.abscissa-2.ensures, c.worth-unit.ensures)
    (fraction_read _ pointed_at c.digits-f.ensures.0 _ p.2 (digit_seen_not _ _ c.digits-f.ensures.1 c.is_digit.ensures c.if-is_digit.false))
