-- `figure::exact_with` meets its contract: FIRSTY's quotient is as it was found, but for a missing ordinate.
use mathlib.Core.Path.{refl, sym, ◌∙◌}
use borrow.Author.Tests.{ne_eqb}
use mir.Facts.{to_z-of_z}
use Rattle.figure.proofs.exact_with.Goals as goal

pub returns-then-ordinate-eq0 : goal.returns-then-ordinate-eq0
returns-then-ordinate-eq0 c = let e = rw (to_z-of_z c.ranges.y) at c.ordinate_of-ordinate.ensures.0 in rw (sym e ∙ c.if-ordinate-eq0.true) refl

pub returns : goal.returns
returns c = let e = rw (to_z-of_z c.ranges.y) at c.ordinate_of-ordinate.ensures.0 in rw (ne_eqb _ 0 (λ z. c.if-ordinate-eq0.false (e ∙ z))) refl
