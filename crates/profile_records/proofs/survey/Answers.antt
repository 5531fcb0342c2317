-- `profile_records::survey` meets its contract: one record after the other.
use mathlib.Core.Path.{◌≡◌}
use Prim.Native.Nat.{◌+◌, ◌*◌}
use native.Mathlib.Omega.{arith}
use Rattle.profile_records.proofs.RecordTurns.{gone_begin, gone_done, gone_lacks, gone_on}
use Rattle.profile_records.proofs.survey.Goals as goal

pub loop-k-init : goal.loop-k-init
loop-k-init c = gone_begin _ _ _ _ _ c.requires.1

pub find_kth-requires : goal.find_kth-requires
find_kth-requires c = (c.requires.0, c.loop-k-test.true)

pub returns-in-None : goal.returns-in-None
returns-in-None c =
    gone_lacks _ _ _ _ _ _ _ _ c.loop-k.invariant c.loop-k-test.true (rw c.in-None.is at c.find_kth.ensures)

pub judge-requires : goal.judge-requires
judge-requires c = let l = rw c.in-Some.is at c.find_kth.ensures in l.inside

pub loop-k-preserved : goal.loop-k-preserved
loop-k-preserved c =
    let found = rw c.in-Some.is at c.find_kth.ensures in
    let e : 3 * c.loop-k.k + 3 ≡ 3 * (c.loop-k.k + 1) = omega arith in
    rw e at (gone_on _ _ _ _ _ _ _ _ c.loop-k.invariant c.loop-k-test.true _ found _ c.judge.ensures _ c.first_fault-said.ensures _ c.put.ensures)

pub returns : goal.returns
returns c = gone_done _ _ _ _ _ _ _ _ c.loop-k.invariant (omega (arith, c.loop-k-test.false))
