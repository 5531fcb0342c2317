-- `text_thousandths::abscissa` meets its contract: the abscissa of the point i, to the nearest thousandth, halves to the larger.
use native.Mathlib.Omega.{arith}
use Rattle.text_thousandths.proofs.HeadSteps.{one_point, some_points, nearest_below, products}
use Rattle.text_thousandths.proofs.abscissa.Goals as goal

pub returns-then-n-eq1 : goal.returns-then-n-eq1
returns-then-n-eq1 c = (one_point _ _ _ _ c.if-n-eq1.true, c.requires.0.first)

pub overflow_mul-before : goal.overflow_mul-before
overflow_mul-before c = let z = products c.args.fr c.args.i c.requires.0 c.requires.1 in omega arith

pub overflow_mul-after : goal.overflow_mul-after
overflow_mul-after c = let z = products c.args.fr c.args.i c.requires.0 c.requires.1 in omega arith

pub overflow_add-exact : goal.overflow_add-exact
overflow_add-exact c = let z = products c.args.fr c.args.i c.requires.0 c.requires.1 in omega arith

pub overflow_add-halves : goal.overflow_add-halves
overflow_add-halves c = let z = products c.args.fr c.args.i c.requires.0 c.requires.1 in omega arith

pub overflow_add-halves-2 : goal.overflow_add-halves-2
overflow_add-halves-2 c = let z = products c.args.fr c.args.i c.requires.0 c.requires.1 in omega (arith, c.requires.0.few)

pub returns : goal.returns
returns c = (some_points _ _ _ _ c.if-n-eq1.false, nearest_below _ _ _ _ c.if-n-eq1.false c.requires.1 c.requires.0.first c.requires.0.last)
