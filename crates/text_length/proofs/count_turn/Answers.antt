-- `text_length::count_turn` meets its contract: the groups that fit on the line, and the start of a new line if points are left.
use native.Mathlib.Omega.{arith}
use lib.ListN.{length-map}
use Rattle.table_spec.specs.Frame.{ordinate_of}
use Rattle.text_length.proofs.CountSteps.{counted_all, counted_line, line_short}
use Rattle.text_length.proofs.count_turn.Goals as goal

pub returns-then-t-ys : goal.returns-then-t-ys
returns-then-t-ys c =
    let p = c.requires in
    let e = c.count_line-t.ensures in
    (counted_all _ _ e.0 _ (omega (arith, p.3)) (omega (arith, p.0.some, c.if-t-ys.true)), λ l. absurd (omega (arith, c.if-t-ys.true)))

pub returns : goal.returns
returns c =
    let a = c.args in
    let p = c.requires in
    let l = length-map a.ys.now ordinate_of in
    let e = c.count_line-t.ensures in
    let b = c.if-t-ys.false in
    let v = c.new_line.ensures in
    (counted_line _ _ e.0 (omega arith) e.1 v (omega (arith, p.3)) (omega (arith, p.0.some)) p.2, λ _. line_short _ _ e.0 (omega arith) e.1 v)
