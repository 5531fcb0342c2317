-- `file_check::check_abscissas` meets its contract: 28 for F, then for L, then what the body says.
-- where FIRSTX is divided by XFACTOR
use mathlib.Core.List.{List}
use mathlib.Core.Path.{◌≡◌, refl, sym, ap, ◌∙◌}
use Prim.Native.Nat.{ℕ}
use mir.Syntax.{w64}
use mir.Facts.{to_z-of_z}
use borrow.Author.Rules.{sfits_of}
use Rattle.decimal_spec.specs.declared.Quotient.{Quotient}
use Rattle.file_spec.specs.Figures.{ratio}
use Rattle.file_body.proofs.BodyLaws.{stage_refused, stage_same}
use Rattle.file_check.proofs.StageLaws.{first_beyond, last_beyond, both_whole}
use Rattle.file_check.proofs.check_abscissas.Goals as goal
use Rattle.std.specs.Prelude.{Option, Err}
use Rattle.decimal_spec.specs.declared.Whole.{Whole}

rounded_is : {q r : Quotient} {x : Option Whole} → q ≡ r → q.rounded ≡ x → r.rounded ≡ x
rounded_is e h = ap (λ (q : Quotient). q.rounded) (sym e) ∙ h

exact_is : {q r : Quotient} → q ≡ r → q.exact ≡ r.exact
exact_is e = ap (λ (q : Quotient). q.exact) e

pub whole_of-first-requires : goal.whole_of-first-requires
whole_of-first-requires c = rw c.in-Some.is at c.ratio_of-f.ensures.1

pub whole_of-last-requires : goal.whole_of-last-requires
whole_of-last-requires c = rw c.in-Some-rounded.is at c.ratio_of-l.ensures.1

pub check_body-requires : goal.check_body-requires
check_body-requires c =
    let p = c.requires in
    (p.0, p.1, p.2, p.3, record { first = exact_is c.ratio_of-f.ensures.0; last = exact_is c.ratio_of-l.ensures.0 })

pub returns-in_default : goal.returns-in_default
returns-in_default c =
    let file : List ℕ = c.args.file.now in
    let room : ℕ = c.args.room in
    let quotient : Option Whole = (ratio 3 c.args.n.firstx c.args.n.xfactor).rounded in
    let a = c.args in
    let beyond = rounded_is c.ratio_of-f.ensures.0 c.in_default.is in
    stage_refused (ap Err c.of.ensures) (rw c.mark_in.ensures (first_beyond file room a.x a.n a.start quotient beyond))

pub returns-in_default-rounded : goal.returns-in_default-rounded
returns-in_default-rounded c =
    let file : List ℕ = c.args.file.now in
    let room : ℕ = c.args.room in
    let quotient : Option Whole = (ratio 3 c.args.n.firstx c.args.n.xfactor).rounded in
    let a = c.args in
    let is = rounded_is c.ratio_of-f.ensures.0 c.in-Some.is in
    let beyond = rounded_is c.ratio_of-l.ensures.0 c.in_default-rounded.is in
    stage_refused (ap Err c.of-in_default-rounded.ensures) (rw c.mark_in-in_default-rounded.ensures (last_beyond file room a.x a.n a.start quotient _ _ is beyond))

pub returns : goal.returns
returns c =
    let file : List ℕ = c.args.file.now in
    let room : ℕ = c.args.room in
    let quotient : Option Whole = (ratio 3 c.args.n.firstx c.args.n.xfactor).rounded in
    let a = c.args in
    let is_first = rounded_is c.ratio_of-f.ensures.0 c.in-Some.is in
    let is_last = rounded_is c.ratio_of-l.ensures.0 c.in-Some-rounded.is in
    stage_same refl (both_whole file room a.x a.n a.start quotient _ _ _ _ is_first is_last)
    (rw (to_z-of_z (sfits_of {w = w64} c.whole_of-first.type_inv), to_z-of_z (sfits_of {w = w64} c.whole_of-last.type_inv), c.whole_of-first.ensures, c.whole_of-last.ensures)
    at c.check_body.ensures)
