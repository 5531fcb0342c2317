-- `file_plan::plan_numbers` meets its contract: 28 for F, then for L, then what the frame says.
-- where FIRSTX is divided by XFACTOR, and the start from there
use mathlib.Core.Path.{◌≡◌, sym, ap, ◌∙◌}
use mir.Syntax.{w64}
use mir.Facts.{to_z-of_z}
use borrow.Author.Rules.{sfits_of}
use Rattle.decimal_spec.specs.declared.Quotient.{Quotient}
use Rattle.file_plan.proofs.StageSteps.{plans_same, first_beyond, last_beyond, both_whole}
use Rattle.file_plan.proofs.plan_numbers.Goals as goal
use Rattle.std.specs.Prelude.{Option}
use Rattle.decimal_spec.specs.declared.Whole.{Whole}

rounded_is : {q r : Quotient} {x : Option Whole} → q ≡ r → q.rounded ≡ x → r.rounded ≡ x
rounded_is e h = ap (λ (q : Quotient). q.rounded) (sym e) ∙ h

exact_is : {q r : Quotient} → q ≡ r → q.exact ≡ r.exact
exact_is e = ap (λ (q : Quotient). q.exact) e

pub whole_of-first-requires : goal.whole_of-first-requires
whole_of-first-requires c = rw c.in-Some.is at c.ratio_of-f.ensures.1

pub whole_of-last-requires : goal.whole_of-last-requires
whole_of-last-requires c = rw c.in-Some-rounded.is at c.ratio_of-l.ensures.1

pub plan_in-requires : goal.plan_in-requires
plan_in-requires c =
    (c.requires, record { first = exact_is c.ratio_of-f.ensures.0; last = exact_is c.ratio_of-l.ensures.0 })

pub returns-in_default : goal.returns-in_default
returns-in_default c =
    let a = c.args in
    λ title _ space. first_beyond title a.n a.ordinates.now space (rounded_is c.ratio_of-f.ensures.0 c.in_default.is)

pub returns-in_default-rounded : goal.returns-in_default-rounded
returns-in_default-rounded c =
    let a = c.args in
    let is = rounded_is c.ratio_of-f.ensures.0 c.in-Some.is in
    let beyond = rounded_is c.ratio_of-l.ensures.0 c.in_default-rounded.is in
    λ title _ space. last_beyond title a.n a.ordinates.now space is beyond

pub returns : goal.returns
returns c =
    let a = c.args in
    let is_first = rounded_is c.ratio_of-f.ensures.0 c.in-Some.is in
    let is_last = rounded_is c.ratio_of-l.ensures.0 c.in-Some-rounded.is in
    let next = rw (to_z-of_z (sfits_of {w = w64} c.whole_of-first.type_inv), to_z-of_z (sfits_of {w = w64} c.whole_of-last.type_inv), c.whole_of-first.ensures, c.whole_of-last.ensures)
    at c.plan_in.ensures in
    λ title short. plans_same _ _ _ title a.ordinates.now c.plan_in.result (λ space. both_whole title a.n a.ordinates.now space is_first is_last) (next title short)
