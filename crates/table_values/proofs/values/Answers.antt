-- `table_values::values` meets its contract: the values of a line, from a place on, with k points given; the first must equal `want`, if that is not 0.
use mathlib.Core.Path.{refl}
use native.Mathlib.Omega.{arith}
use Prim.Native.Nat.{◌-◌}
use borrow.Author.Rules.{rules}
use Rattle.table_value.proofs.Walks.{went_none, went_went}
use Rattle.table_values.proofs.Walks.{went_past, went_line, went_refused}
use Rattle.table_values.proofs.values.Goals as goal

pub loop-d-init : goal.loop-d-init
loop-d-init c =
    let p = c.requires in
    (went_none _ _ (record { some = p.some; high = p.high; small = omega arith; size = omega arith; few = p.few }), refl)

pub past_blanks-a-requires : goal.past_blanks-a-requires
past_blanks-a-requires c = c.loop-d.invariant.0.sits.high

pub run-b-requires : goal.run-b-requires
run-b-requires c = (c.requires.most, (went_past c.loop-d.invariant.0 c.past_blanks-a.ensures).sits)

pub token-requires : goal.token-requires
token-requires c = (c.requires.most, c.run-b.ensures.sits)

pub loop-d-smaller : goal.loop-d-smaller
loop-d-smaller c =
    let x = rw (c.in-Ok-Go.is, c.in-Ok-Go.field-0-is) at c.token.ensures in
    let l = c.past_blanks-a.ensures.0.low in let y = c.run-b.ensures.low in
    let z = x.1.sits.high in omega (arith, x.0)

pub loop-d-preserved : goal.loop-d-preserved
loop-d-preserved c =
    let x = rw (c.in-Ok-Go.is, c.in-Ok-Go.field-0-is) at c.token.ensures in
    let e = c.past_blanks-a.ensures in let g = c.loop-d.invariant.0 in
    (went_went (went_went (went_past g e) c.run-b.ensures) x.1, search rules)

pub returns-in-Ok-Line : goal.returns-in-Ok-Line
returns-in-Ok-Line c =
    let x = rw (c.in-Ok-Line.is, c.in-Ok-Line.field-0-is) at c.token.ensures in
    let e = c.past_blanks-a.ensures in let g = c.loop-d.invariant.0 in
    rw c.row_after.ensures (went_line _ (went_went (went_past g e) c.run-b.ensures) x)

pub returns-in-Err : goal.returns-in-Err
returns-in-Err c =
    let x = rw c.in-Err.is at c.token.ensures in
    let e = c.past_blanks-a.ensures in let g = c.loop-d.invariant.0 in
    rw c.of.ensures (went_refused _ (went_went (went_past g e) c.run-b.ensures) _ x)
