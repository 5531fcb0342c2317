-- `table_lengths::past_last_lf` meets its contract: no LF stands from i on.
use mathlib.Core.Path.{◌≡◌}
use Prim.Native.Nat.{◌+◌, ◌-◌}
use native.Mathlib.Omega.{arith}
use Rattle.table_lengths.proofs.LengthLaws.{scan_start, scan_on, scan_found, scan_none}
use Rattle.table_lengths.proofs.past_last_lf.Goals as goal

pub loop-i-init : goal.loop-i-init
loop-i-init c = scan_start _ _ _ (omega arith)

pub returns-then-s-i-eq10 : goal.returns-then-s-i-eq10
returns-then-s-i-eq10 c =
    let e : c.loop-i.i ≡ c.loop-i.i - 1 + 1 = omega (arith, c.loop-i-test.true) in
    rw e at (scan_found _ _ _ c.loop-i.invariant c.if-s-i-eq10.true)

pub loop-i-preserved : goal.loop-i-preserved
loop-i-preserved c = scan_on _ _ _ c.loop-i.invariant c.loop-i-test.true c.if-s-i-eq10.false

pub returns : goal.returns
returns c =
    let low = c.loop-i.invariant.low in
    let e : c.loop-i.i ≡ c.args.at = omega (arith, low, c.loop-i-test.false) in
    rw e at (scan_none _ _ _ c.loop-i.invariant c.loop-i-test.false)
