-- `label_lines::rest_of_line` meets its contract: no LF has come up to i.
use mathlib.Core.Path.{refl}
use native.Mathlib.Omega.{arith}
use Rattle.label_lines.proofs.LineTurns.{along_end, along_stop, along_on}
use Rattle.label_lines.proofs.rest_of_line.Goals as goal

pub loop-i-init : goal.loop-i-init
loop-i-init c = (omega arith, omega (arith, c.requires), refl)

pub returns-then-s-i-eq10 : goal.returns-then-s-i-eq10
returns-then-s-i-eq10 c = along_stop _ _ _ c.loop-i.invariant c.if-s-i-eq10.true

pub loop-i-preserved : goal.loop-i-preserved
loop-i-preserved c = along_on _ _ _ c.loop-i.invariant c.loop-i-test.true c.if-s-i-eq10.false

pub returns : goal.returns
returns c = along_end _ _ _ c.loop-i.invariant c.loop-i-test.false
