-- `frame::lift` meets its contract: x plus 10,000,000,000, or 0 where x is beyond the largest abscissa.
use mathlib.Core.Path.{sym}
use native.Mathlib.Omega.{arith}
use mir.Facts.{to_z-of_z}
use Rattle.table_spec.specs.Frame.{zero_abscissa}
use Rattle.signed.specs.Scale.{lift_sum, lift_small}
use Rattle.frame.proofs.Limits.{too_low, too_high, within_mag, within_limits, lifted_fits}
use Rattle.frame.proofs.lift.Goals as goal

pub returns-then-x : goal.returns-then-x
returns-then-x c = sym (too_low _ (rw (to_z-of_z c.ranges.x) at c.if-x.true))

pub returns-then-x-gt-LARGEST_ABSCISSA : goal.returns-then-x-gt-LARGEST_ABSCISSA
returns-then-x-gt-LARGEST_ABSCISSA c = sym (too_high _ (rw (to_z-of_z c.ranges.x) at c.if-x-gt-LARGEST_ABSCISSA.true))

pub overflow_add-y : goal.overflow_add-y
overflow_add-y c =
    let e = to_z-of_z c.ranges.x in let x = c.args.x in
    let g = within_mag x (rw e at c.if-x.false) (rw e at c.if-x-gt-LARGEST_ABSCISSA.false) in
    rw (e, lift_sum zero_abscissa x g) (lifted_fits x g)

pub overflow_cast-result : goal.overflow_cast-result
overflow_cast-result c =
    let e = to_z-of_z c.ranges.x in let x = c.args.x in
    let g = within_mag x (rw e at c.if-x.false) (rw e at c.if-x-gt-LARGEST_ABSCISSA.false) in
    rw (e, lift_sum zero_abscissa x g, to_z-of_z (lifted_fits x g)) (tt, record { fits = omega (arith, lift_small zero_abscissa x g) })

pub returns : goal.returns
returns c =
    let e = to_z-of_z c.ranges.x in let x = c.args.x in
    let h = rw e at c.if-x.false in let k = rw e at c.if-x-gt-LARGEST_ABSCISSA.false in let g = within_mag x h k in
    rw (e, lift_sum zero_abscissa x g, to_z-of_z (lifted_fits x g)) (within_limits x h k)
