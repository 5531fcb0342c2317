-- `plain_values::dif_points` meets its contract: one step of the difference, or 8 or 9.
use mathlib.Core.Path.{sym, ◌∙◌}
use Rattle.plain_values.proofs.ValueLaws.{dif_8, dif_9, dif_is}
use Rattle.plain_values.proofs.dif_points.Goals as goal

pub returns-then-q-eq0 : goal.returns-then-q-eq0
returns-then-q-eq0 c = let a = c.args in dif_8 a.q a.minus a.v c.if-q-eq0.true

pub returns-then-last-eq0 : goal.returns-then-last-eq0
returns-then-last-eq0 c =
    let a = c.args in
    dif_9 a.q a.minus a.v c.if-q-eq0.false (sym c.shifted-last.ensures ∙ c.if-last-eq0.true)

pub returns : goal.returns
returns c =
    let a = c.args in let p = c.requires in
    dif_is a.q a.minus a.v _ p.0 p.1 c.if-q-eq0.false c.shifted-last.ensures c.if-last-eq0.false
