-- `file_gather::record_at` meets its contract: the record with the k-th name.
use Prim.Native.Nat.{◌≤◌}
use native.Mathlib.Omega.{arith}
use Rattle.label_spec.specs.Names.{norm, ignored, blank, upper}
use Rattle.file_gather.proofs.GatherLaws.{past, sixth}
use Rattle.file_gather.proofs.record_at.Goals as goal

pub returns-in-0 : goal.returns-in-0
unfolding norm ignored blank upper
returns-in-0 c = rw c.in-0.is c.find_record.ensures

pub returns-in-1 : goal.returns-in-1
unfolding norm ignored blank upper
returns-in-1 c = rw c.in-1.is c.find_record-in-1.ensures

pub returns-in-2 : goal.returns-in-2
unfolding norm ignored blank upper
returns-in-2 c = rw c.in-2.is c.find_record-in-2.ensures

pub returns-in-3 : goal.returns-in-3
unfolding norm ignored blank upper
returns-in-3 c = rw c.in-3.is c.find_record-in-3.ensures

pub returns-in-4 : goal.returns-in-4
unfolding norm ignored blank upper
returns-in-4 c = rw c.in-4.is c.find_record-in-4.ensures

pub returns-in-5 : goal.returns-in-5
unfolding norm ignored blank upper
returns-in-5 c = rw c.in-5.is c.find_record-in-5.ensures

pub returns-in_default : goal.returns-in_default
unfolding norm ignored blank upper
returns-in_default c =
    let k = c.args.k in
    let no = c.in_default.in_default-own.rest in
    let none_of_three = past no.0.0.0.1 (past no.0.0.0.0.1 (past no.0.0.0.0.0.1 (omega arith))) in
    let none_of_six : 6 ≤ k = past no.1 (past no.0.1 (past no.0.0.1 none_of_three)) in
    rw (sixth none_of_six c.requires.1) c.find_record-in_default.ensures
