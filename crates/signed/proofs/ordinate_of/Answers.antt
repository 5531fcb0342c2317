-- `signed::ordinate_of` meets its contract: the ordinate that an entry of the slice is.
use mathlib.Core.Path.{refl}
use native.Mathlib.Omega.{arith}
use mir.Facts.{to_z-of_z}
use Rattle.table_spec.specs.Frame.{zero_ordinate}
use Rattle.signed.specs.Scale.{lift_sum, lift_small, lift_fits, wider}
use Rattle.signed.proofs.ordinate_of.Goals as goal

pub overflow_cast-a : goal.overflow_cast-a
overflow_cast-a c = rw (to_z-of_z c.ranges.y) (wider c.ranges.y)

pub overflow_add-b : goal.overflow_add-b
overflow_add-b c = rw (to_z-of_z c.ranges.y, to_z-of_z (wider c.ranges.y), lift_sum zero_ordinate c.args.y c.ranges.y.sfits) (lift_fits c.args.y c.ranges.y)

pub overflow_cast-result : goal.overflow_cast-result
overflow_cast-result c =
    rw (to_z-of_z c.ranges.y, to_z-of_z (wider c.ranges.y), lift_sum zero_ordinate c.args.y c.ranges.y.sfits, to_z-of_z (lift_fits c.args.y c.ranges.y))
    (tt, record { fits = omega (arith, lift_small zero_ordinate c.args.y c.ranges.y.sfits) })

pub returns : goal.returns
returns c =
    rw (to_z-of_z c.ranges.y, to_z-of_z (wider c.ranges.y), lift_sum zero_ordinate c.args.y c.ranges.y.sfits, to_z-of_z (lift_fits c.args.y c.ranges.y))
    (refl, lift_small zero_ordinate c.args.y c.ranges.y.sfits)
