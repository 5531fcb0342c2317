-- `profile_told::store_numbers` meets its contract: one entry after the other, as far as there is room.
use mathlib.Core.Path.{refl}
use Prim.Native.Nat.{◌-◌}
use Rattle.profile_told.proofs.ToldTurns.{storing_full, storing_done, storing_on}
use Rattle.profile_told.proofs.store_numbers.Goals as goal

pub loop-i-init : goal.loop-i-init
loop-i-init c = (refl, refl)

pub returns-then-i-out : goal.returns-then-i-out
returns-then-i-out c = storing_full _ _ _ _ c.loop-i.invariant c.if-i-out.true

pub loop-i-preserved : goal.loop-i-preserved
loop-i-preserved c = storing_on _ _ _ _ c.loop-i.invariant c.loop-i-test.true

pub returns : goal.returns
returns c = storing_done _ _ _ _ c.loop-i.invariant c.loop-i-test.false
