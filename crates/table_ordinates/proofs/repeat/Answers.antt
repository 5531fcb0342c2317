-- `table_ordinates::repeat` meets its contract: stores n ordinates, each a step from the one before.
use mathlib.Core.Path.{◌≡◌}
use mathlib.Core.List.{map}
use Prim.Native.Nat.{◌+◌, ◌-◌}
use native.Mathlib.Omega.{arith}
use Rattle.table_spec.specs.Frame.{entry_for}
use Rattle.table_spec.specs.Values.{By, copies}
use Rattle.table_ordinates.proofs.Repeats.{past_end, repeat_turn}
use Rattle.table_ordinates.proofs.repeat.Goals as goal

pub returns-then-k-out : goal.returns-then-k-out
returns-then-k-out c = let a = c.args in past_end _ _ (map entry_for (copies a.n (By a.minus a.d) a.q)) c.if-k-out.true

pub loop-i-preserved : goal.loop-i-preserved
loop-i-preserved c =
    let a = c.args in let i = c.loop-i.i in
    let e : a.k + a.n - i - 1 ≡ a.k + a.n - (i + 1) = omega arith in
    rw e at (repeat_turn c.loop-i.invariant (omega (arith, c.loop-i-test.true)) _ c.moved_by-u.ensures _ c.put.ensures)
