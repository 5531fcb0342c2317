-- `profile_find::find_kth` meets its contract: the name by the number of the record.
use mathlib.Core.Path.{◌≡◌}
use native.Mathlib.Omega.{arith}
use Rattle.label_spec.specs.Names.{norm, ignored, blank, upper}
use Rattle.profile_spec.specs.Wanted.{wanted}
use Rattle.profile_find.proofs.FindTurns.{beyond}
use Rattle.profile_find.proofs.find_kth.Goals as goal

pub returns-in-0 : goal.returns-in-0
unfolding wanted norm ignored blank upper
returns-in-0 c = rw c.in-0.is c.find_named.ensures

pub returns-in-1 : goal.returns-in-1
unfolding wanted norm ignored blank upper
returns-in-1 c = rw c.in-1.is c.find_named-in-1.ensures

pub returns-in-2 : goal.returns-in-2
unfolding wanted norm ignored blank upper
returns-in-2 c = rw c.in-2.is c.find_named-in-2.ensures

pub returns-in-3 : goal.returns-in-3
unfolding wanted norm ignored blank upper
returns-in-3 c = rw c.in-3.is c.find_named-in-3.ensures

pub returns-in-4 : goal.returns-in-4
unfolding wanted norm ignored blank upper
returns-in-4 c = rw c.in-4.is c.find_named-in-4.ensures

pub returns-in-5 : goal.returns-in-5
unfolding wanted norm ignored blank upper
returns-in-5 c = rw c.in-5.is c.find_named-in-5.ensures

pub returns-in-6 : goal.returns-in-6
unfolding wanted norm ignored blank upper
returns-in-6 c = rw c.in-6.is c.find_named-in-6.ensures

pub returns-in-7 : goal.returns-in-7
unfolding wanted norm ignored blank upper
returns-in-7 c = rw c.in-7.is c.find_named-in-7.ensures

pub returns-in-8 : goal.returns-in-8
unfolding wanted norm ignored blank upper
returns-in-8 c = rw c.in-8.is c.find_named-in-8.ensures

pub returns-in-9 : goal.returns-in-9
unfolding wanted norm ignored blank upper
returns-in-9 c = rw c.in-9.is c.find_named-in-9.ensures

pub returns-in-10 : goal.returns-in-10
unfolding wanted norm ignored blank upper
returns-in-10 c = rw c.in-10.is c.find_named-in-10.ensures

pub returns-in-11 : goal.returns-in-11
unfolding wanted norm ignored blank upper
returns-in-11 c = rw c.in-11.is c.find_named-in-11.ensures

pub returns-in-12 : goal.returns-in-12
unfolding wanted norm ignored blank upper
returns-in-12 c = rw c.in-12.is c.find_named-in-12.ensures

pub returns-in-13 : goal.returns-in-13
unfolding wanted norm ignored blank upper
returns-in-13 c = rw c.in-13.is c.find_named-in-13.ensures

pub returns-in_default : goal.returns-in_default
unfolding wanted norm ignored blank upper
returns-in_default c =
    let m = c.in_default.in_default-own.rest in let k = c.args.k in
    let r12 = m.0 in let r11 = r12.0 in let r10 = r11.0 in let r9 = r10.0 in let r8 = r9.0 in let r7 = r8.0 in
    let r6 = r7.0 in let r5 = r6.0 in let r4 = r5.0 in let r3 = r4.0 in let r2 = r3.0 in let r1 = r2.0 in
    let r0 = r1.0 in
    let h1 = beyond 0 k (omega arith) r0.1 in let h2 = beyond 1 k h1 r1.1 in let h3 = beyond 2 k h2 r2.1 in let h4 = beyond 3 k h3 r3.1 in
    let h5 = beyond 4 k h4 r4.1 in let h6 = beyond 5 k h5 r5.1 in let h7 = beyond 6 k h6 r6.1 in let h8 = beyond 7 k h7 r7.1 in
    let h9 = beyond 8 k h8 r8.1 in let h10 = beyond 9 k h9 r9.1 in let h11 = beyond 10 k h10 r10.1 in let h12 = beyond 11 k h11 r11.1 in
    let h13 = beyond 12 k h12 r12.1 in let h14 = beyond 13 k h13 m.1 in
    let e : k ≡ 14 = omega (arith, c.requires.1) in
    rw e c.find_named-in_default.ensures
