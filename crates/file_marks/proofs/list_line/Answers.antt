-- `file_marks::list_line` meets its contract: of the list so much has stood, and the rest of the line is against what is left.
use mathlib.Core.Path.{◌≡◌, refl, sym, ◌∙◌}
use mathlib.Core.List.{List}
use Prim.Native.Nat.{ℕ}
use native.Mathlib.Omega.{arith}
use lib.ListN.{length, drop}
use Rattle.file_spec.specs.Texts.{LIST, listed_as, listed_in}
use Rattle.file_marks.proofs.TextLaws.{list_end, list_lf, list_step_lem, list_stop, ended_in}
use Rattle.file_marks.proofs.list_line.Goals as goal

begins : (s : List ℕ) → listed_in s ≡ listed_as s 0 LIST
unfolding listed_in
begins s = refl

pub loop-i-init : goal.loop-i-init
loop-i-init c = (omega arith, omega arith, begins c.args.s.now)

pub list_ended-requires : goal.list_ended-requires
list_ended-requires c = c.loop-i.invariant.1

pub returns-then-b-eq10 : goal.returns-then-b-eq10
returns-then-b-eq10 c =
    let l = c.loop-i in let s = c.args.s.now in
    let h = c.loop-i-test.true in
    (c.list_ended.ensures ∙ sym (l.invariant.2 ∙ list_lf s l.i _ h c.if-b-eq10.true), rw c.list_ended.ensures (ended_in (drop l.k LIST) _ _ (omega arith)))

pub returns-then-n-gt11 : goal.returns-then-n-gt11
returns-then-n-gt11 c =
    let l = c.loop-i in
    let s = c.args.s.now in let e = rw c.byte_at.ensures at c.list_step-n.ensures in
    (sym (l.invariant.2 ∙ list_stop s l.i l.k c.loop-i-test.true c.if-b-eq10.false l.invariant.1 (rw e at c.if-n-gt11.true)), tt)

pub loop-i-preserved : goal.loop-i-preserved
loop-i-preserved c =
    let l = c.loop-i in
    let s = c.args.s.now in let e = rw c.byte_at.ensures at c.list_step-n.ensures in
    let h = c.loop-i-test.true in
    (omega arith, c.if-n-gt11.false, l.invariant.2 ∙ rw e (list_step_lem s l.i l.k h c.if-b-eq10.false l.invariant.1 (rw e at c.if-n-gt11.false)))

pub list_ended-requires-2 : goal.list_ended-requires-2
list_ended-requires-2 c = c.loop-i.invariant.1

pub returns : goal.returns
returns c =
    let l = c.loop-i in let s = c.args.s.now in
    let e : l.i ≡ length s = omega arith in
    (c.list_ended-2.ensures ∙ rw (← e) (sym (l.invariant.2 ∙ list_end s l.i _ c.loop-i-test.false)), rw c.list_ended-2.ensures (ended_in (drop l.k LIST) _ _ (omega arith)))
