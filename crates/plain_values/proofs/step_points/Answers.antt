-- `plain_values::step_points` meets its contract: further steps of the difference, all in range if the last is; or 9.
use mathlib.Core.Path.{sym, ◌∙◌}
use native.Mathlib.Omega.{arith}
use Rattle.table_ordinates.proofs.Moves.{far_small}
use Rattle.plain_values.proofs.ValueLaws.{step_9, step_is}
use Rattle.plain_values.proofs.step_points.Goals as goal

pub overflow_mul-far : goal.overflow_mul-far
overflow_mul-far c = let a = c.args in let p = c.requires in let z = far_small a.d a.n p.2 p.4 in omega arith

pub shifted-last-requires : goal.shifted-last-requires
shifted-last-requires c = let a = c.args in let p = c.requires in (p.1, far_small a.d a.n p.2 p.4)

pub returns-then-last-eq0 : goal.returns-then-last-eq0
returns-then-last-eq0 c =
    let a = c.args in let p = c.requires in
    step_9 a.q a.n p.1 p.3 p.4 a.minus a.d p.0 (sym c.shifted-last.ensures ∙ c.if-last-eq0.true)

pub returns : goal.returns
returns c =
    let a = c.args in let p = c.requires in
    step_is a.q a.n p.1 p.3 p.4 a.minus a.d p.0 _ c.shifted-last.ensures c.if-last-eq0.false
