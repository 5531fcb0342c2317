-- `figure::exceed` meets its contract: minus, zero, or above it.
use mathlib.Core.Path.{sym, ap, ◌∙◌, subst}
use native.Mathlib.Omega.{arith}
use Rattle.file_spec.specs.Figures.{exceeding}
use Rattle.figure.specs.Bounds.{GivenIn}
use Rattle.figure.proofs.FigureLaws.{exceeds_not, exceeds_zero, exceeds}
use Rattle.figure.proofs.exceed.Goals as goal

pub returns-then-d : goal.returns-then-d
returns-then-d c = (exceeds_not _ c.if-d.true ∙ ap exceeding (sym c.in-Some.is), tt)

pub returns-then-d-eq0 : goal.returns-then-d-eq0
returns-then-d-eq0 c = (exceeds_zero _ c.if-d.false c.if-d-eq0.true ∙ ap exceeding (sym c.in-Some.is), tt)

pub returns-in-None : goal.returns-in-None
unfolding exceeding
returns-in-None c = (sym (ap exceeding c.in-None.is), tt)

pub returns-else-d-eq0 : goal.returns-else-d-eq0
returns-else-d-eq0 c =
    let s = subst GivenIn c.in-Some.is c.requires in let n = c.if-d-eq0.false in
    (exceeds _ c.if-d.false n ∙ ap exceeding (sym c.in-Some.is), record { small = s; some = omega (arith, n) })
