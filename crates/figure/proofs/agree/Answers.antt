-- `figure::agree` meets its contract: a missing ordinate agrees, and no other one with what is beyond.
use mathlib.Core.Path.{refl, sym, ◌∙◌, subst}
use native.Mathlib.Omega.{arith}
use borrow.Author.Tests.{ne_eqb}
use mir.Facts.{to_z-of_z}
use Rattle.file_spec.specs.Figures.{equals}
use Rattle.figure.specs.Bounds.{RoundedIn}
use Rattle.figure.proofs.agree.Goals as goal

pub returns-then-u-eq0 : goal.returns-then-u-eq0
returns-then-u-eq0 c = let e = rw (to_z-of_z c.ranges.y) at c.ordinate_of-u.ensures.0 in rw (sym e ∙ c.if-u-eq0.true) refl

pub equal_to-requires : goal.equal_to-requires
equal_to-requires c =
    let small = subst RoundedIn c.in-Some.is c.requires in
    let some = c.if-u-eq0.false in (omega (arith, some), small)

pub returns-in-None : goal.returns-in-None
unfolding equals
returns-in-None c =
    let e = rw (to_z-of_z c.ranges.y) at c.ordinate_of-u.ensures.0 in
    rw (ne_eqb _ 0 (λ z. c.if-u-eq0.false (e ∙ z)), c.in-None.is) refl

pub returns-in-Some : goal.returns-in-Some
unfolding equals
returns-in-Some c =
    let e = rw (to_z-of_z c.ranges.y) at c.ordinate_of-u.ensures.0 in
    rw (ne_eqb _ 0 (λ z. c.if-u-eq0.false (e ∙ z)), c.in-Some.is) (rw e at c.equal_to.ensures)
