-- `figure::equal_to` meets its contract: no ordinate that is not missing is so far below zero.
use mathlib.Core.Path.{◌≡◌, refl}
use native.Mathlib.Omega.{arith}
use Prim.Native.Nat.{◌-◌}
use borrow.Author.Tests.{ne_eqb}
use Rattle.table_spec.specs.Frame.{zero_ordinate}
use Rattle.figure.proofs.equal_to.Goals as goal

pub returns-then-size-zero : goal.returns-then-size-zero
returns-then-size-zero c =
    let a = c.args in let l = c.if-size-zero.true in
    let z : zero_ordinate - a.size ≡ 0 = omega (arith, c.ordinate_of-zero.ensures.0) in
    rw (c.if-minus.true, z, ne_eqb a.u 0 (λ e. omega (arith, c.requires.0))) refl

pub returns-then-minus : goal.returns-then-minus
returns-then-minus c = rw (c.ordinate_of-zero.ensures.0, c.if-minus.true) refl

pub returns : goal.returns
returns c = rw (c.ordinate_of-zero.ensures.0, c.if-minus.false) refl
