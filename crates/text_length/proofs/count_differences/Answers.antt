-- `text_length::count_differences` meets its contract: the same from any state, and then the groups that repeat a difference.
use native.Mathlib.Omega.{arith}
use lib.ListN.{length-map}
use Rattle.table_spec.specs.Frame.{ordinate_of}
use Rattle.text_differences.proofs.LoneSteps.{counted_none, counted_then}
use Rattle.text_length.proofs.CountSteps.{counted_near}
use Rattle.text_length.proofs.count_differences.Goals as goal

pub returns-then-s-eq0 : goal.returns-then-s-eq0
returns-then-s-eq0 c =
    let a = c.args in
    let p = c.requires in
    (counted_none _ a.s p.0.started (omega (arith, p.1, length-map a.ys.now ordinate_of)) p.0.column_most, p.1)

pub count_repeated-requires : goal.count_repeated-requires
count_repeated-requires c =
    let a = c.args in
    let p = c.requires.0 in
    let e = c.lone_differences-t.ensures in
    let near = counted_near _ e.0 (omega (arith, p.few, length-map a.ys.now ordinate_of)) in
    (record { started = e.0.started; few = p.few; column_most = e.0.column_most; near = omega (arith, p.near) }, e.1, e.2, e.3)

pub returns : goal.returns
returns c = (counted_then _ c.lone_differences-t.ensures.0 c.count_repeated.ensures.0, c.count_repeated.ensures.1)
