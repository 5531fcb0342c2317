-- `frame::Frame::passes` meets its contract: does the head h, an abscissa plus 10,000,000,000, with its unit, pass for the point of index i?
-- the four products are small
use native.Mathlib.Omega.{arith}
use Rattle.frame.proofs.Limits.{Products, products, unit_product, alone, near, coarse}
use Rattle.frame.proofs.Frame.passes.Goals as goal

pub returns-then-n-eq1 : goal.returns-then-n-eq1
returns-then-n-eq1 c = alone c.args.self _ _ _ c.if-n-eq1.true

pub overflow_mul-given : goal.overflow_mul-given
overflow_mul-given c =
    let sizes : Products c.args.self c.args.h c.args.i = products c.requires.0 c.requires.1 c.requires.3 in
    let z = sizes in omega arith

pub overflow_mul-given-2 : goal.overflow_mul-given-2
overflow_mul-given-2 c =
    let sizes : Products c.args.self c.args.h c.args.i = products c.requires.0 c.requires.1 c.requires.3 in
    let z = sizes in omega arith

pub overflow_add-given : goal.overflow_add-given
overflow_add-given c =
    let sizes : Products c.args.self c.args.h c.args.i = products c.requires.0 c.requires.1 c.requires.3 in
    let z = sizes in omega arith

pub overflow_mul-asked : goal.overflow_mul-asked
overflow_mul-asked c =
    let sizes : Products c.args.self c.args.h c.args.i = products c.requires.0 c.requires.1 c.requires.3 in
    let z = sizes in omega arith

pub overflow_mul-asked-2 : goal.overflow_mul-asked-2
overflow_mul-asked-2 c =
    let sizes : Products c.args.self c.args.h c.args.i = products c.requires.0 c.requires.1 c.requires.3 in
    let z = sizes in omega arith

pub overflow_add-asked : goal.overflow_add-asked
overflow_add-asked c =
    let sizes : Products c.args.self c.args.h c.args.i = products c.requires.0 c.requires.1 c.requires.3 in
    let z = sizes in omega arith

pub overflow_mul-off : goal.overflow_mul-off
overflow_mul-off c =
    let sizes : Products c.args.self c.args.h c.args.i = products c.requires.0 c.requires.1 c.requires.3 in
    let z = sizes in omega (arith, c.distance-off.ensures)

pub returns-then-off-distance : goal.returns-then-off-distance
returns-then-off-distance c =
    near c.args.self _ _ _ c.if-n-eq1.false (rw (c.distance-off.ensures, c.distance.ensures) at c.if-off-distance.true)

pub overflow_mul-result : goal.overflow_mul-result
overflow_mul-result c = let z = unit_product c.requires.0 c.requires.2 in omega arith

pub returns : goal.returns
returns c =
    rw c.distance-off.ensures
    (coarse c.args.self _ _ _ c.if-n-eq1.false
    (rw (c.distance-off.ensures, c.distance.ensures) at c.if-off-distance.false))
