-- `plain_expand::next_value` meets its contract: past blanks, a line's end, a missing ordinate, or what the number stands for.
-- where the entry past the blanks is read
use mathlib.Core.Path.{sym, ◌∙◌}
use mathlib.Core.Logic.{◌⊎◌}
use Prim.Native.Nat.{◌<◌, ◌≤◌}
use native.Mathlib.Omega.{arith}
use Rattle.table_numbers.proofs.NumberLaws.{gap_token, kinds}
use Rattle.plain_expand.proofs.GrowLaws.{next_end, next_fault, next_not, next_gives}
use Rattle.plain_values.specs.Means.{form_of}
use Rattle.plain_values.proofs.ValueLaws.{gap_is}
use Rattle.plain_expand.proofs.next_value.Goals as goal

pub returns-in-Some : goal.returns-in-Some
returns-in-Some c =
    let a = c.args in
    next_end _ _ _ a.q (form_of a.form) c.blanks-at.ensures _ (rw c.in-Some.is at c.line_end.ensures)

pub returns-in-None : goal.returns-in-None
returns-in-None c =
    let x = rw c.in-None.is at c.line_end.ensures in
    rw c.of.ensures (next_fault _ _ _ _ _ c.blanks-at.ensures 3 _ (x.1 _))

pub returns-then-e-eq-MISSING : goal.returns-then-e-eq-MISSING
returns-then-e-eq-MISSING c =
    let a = c.args in let t = gap_token _ _ (sym c.entry_at-e.ensures ∙ c.if-e-eq-MISSING.true) in
    rw c.missing_point-p.ensures (next_gives _ _ _ a.q (form_of a.form) c.blanks-at.ensures t _ (gap_is a.q (form_of a.form)))

pub number-requires : goal.number-requires
number-requires c =
    let no_gap : c.entry_at-e.result < 96 ⊎ 128 ≤ c.entry_at-e.result = let e = c.entry_at-e.ensures in
    kinds _ _ _ e c.if-e-ge-POINT.false (λ z. c.blanks-at.ensures.stops (sym e ∙ z)) c.if-e-eq-MISSING.false in
    let l = c.blanks-at.ensures.low in let i = c.requires.0 in
    (c.entry_at-e.ensures, c.if-e-ge-POINT.false, omega arith, no_gap)

pub stands_for-requires : goal.stands_for-requires
stands_for-requires c =
    let no_gap : c.entry_at-e.result < 96 ⊎ 128 ≤ c.entry_at-e.result = let e = c.entry_at-e.ensures in
    kinds _ _ _ e c.if-e-ge-POINT.false (λ z. c.blanks-at.ensures.stops (sym e ∙ z)) c.if-e-eq-MISSING.false in
    let p = c.requires in
    (p.2, p.3, c.if-e-ge-POINT.false, no_gap, (rw c.in-Some-number.is at c.number.ensures).small)

pub returns-in-None-number : goal.returns-in-None-number
returns-in-None-number c = rw c.of-in-None-number.ensures (next_fault _ _ _ _ _ c.blanks-at.ensures 5 _ (rw c.in-None-number.is at c.number.ensures))

pub returns-in-Err : goal.returns-in-Err
returns-in-Err c =
    let x = rw c.in-Some-number.is at c.number.ensures in
    rw c.of-in-Err.ensures (next_not _ _ _ _ _ c.blanks-at.ensures x.token _ (rw c.in-Err.is at c.stands_for.ensures))

pub returns-in-Ok : goal.returns-in-Ok
returns-in-Ok c =
    let x = rw c.in-Some-number.is at c.number.ensures in
    next_gives _ _ _ _ _ c.blanks-at.ensures x.token _ (rw c.in-Ok.is at c.stands_for.ensures)
