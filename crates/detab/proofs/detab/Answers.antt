-- `detab::detab` meets its contract: every byte of the body is as the converter leaves it.
use mathlib.Core.Path.{sym, ◌∙◌}
use Prim.Native.Nat.{◌≤◌, ◌<◌}
use native.Mathlib.Omega.{arith}
use native.Mathlib.Numerals.{add-one}
use lib.ListN.{length}
use Rattle.detab.proofs.Turns.{turn, at_end}
use Rattle.detab.proofs.detab.Goals as goal

pub loop-i-preserved : goal.loop-i-preserved
loop-i-preserved c =
    let s = c.loop-i.body in
    let i = c.loop-i.i in
    let h : i < length s = omega (arith, c.loop-i.auto.body, c.loop-i-test.true) in
    rw (c.commented-inside.ensures, c.changed.ensures, add-one i) (turn c.loop-i.inside s i h ∙ c.loop-i.invariant)

pub returns : goal.returns
returns c =
    let l = c.loop-i in
    let over : length l.body ≤ l.i = omega (arith, l.auto.body, c.loop-i-test.false) in
    sym (at_end l.inside l.body l.i over) ∙ l.invariant
