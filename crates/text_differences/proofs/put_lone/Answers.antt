-- `text_differences::put_lone` meets its contract: differences that stand alone, stored as long as they fit on the line.
use mathlib.Core.Path.{◌≡◌}
use Prim.Native.Nat.{◌+◌, ◌-◌, ◌<◌}
use native.Mathlib.Omega.{arith}
use lib.ListN.{length, length-map}
use Rattle.table_spec.specs.Frame.{ordinate_of}
use Rattle.table_text.specs.Pieces.{ordinates}
use Rattle.text_differences.proofs.LoneSteps.{lone_start, lone_next, stored_start, lone_stored}
use Rattle.text_differences.proofs.put_lone.Goals as goal

pub loop-next-init : goal.loop-next-init
loop-next-init c =
    let a = c.args in
    let p = c.requires in
    let y = c.ordinate_at-y.ensures in
    let t = lone_start (ordinates a.ys.now) a.s _ p.1.started p.3 p.4 (omega (arith, p.2, length-map a.ys.now ordinate_of)) p.1.column_most y.0 y.1 in
    let given : a.s.given + 1 - 1 ≡ a.s.given = omega arith in
    rw given (t, stored_start _ _ _ p.3 t.counted)

pub quick_width-width-requires : goal.quick_width-width-requires
quick_width-width-requires c = let t = c.loop-next.invariant.0 in (t.counted.started.small, t.small, c.ordinate_at-z.ensures.1, c.distance-v.ensures)

pub overflow_add-all : goal.overflow_add-all
overflow_add-all c =
    let p = c.requires in
    let a = c.args in
    let t = c.loop-next.invariant.0 in
    let high = t.high in
    omega (arith, c.quick_width-width.ensures.0, p.1.column_most, p.1.near)

pub state_after-requires : goal.state_after-requires
state_after-requires c =
    let p = c.requires in
    let a = c.args in
    let t = c.loop-next.invariant.0 in
    let high = t.high in
    (t.low, omega (arith, p.1.column_most, p.1.near), omega (arith, p.1.near))

pub returns-then-all-gt-LONGEST_LINE : goal.returns-then-all-gt-LONGEST_LINE
returns-then-all-gt-LONGEST_LINE c =
    let p = c.requires in
    let a = c.args in
    let t = c.loop-next.invariant.0 in
    let high = t.high in
    let inside = t.inside in
    rw c.state_after.ensures (c.loop-next.invariant.1, omega (arith, length-map a.ys.now ordinate_of))

pub overflow_add-line : goal.overflow_add-line
overflow_add-line c =
    let p = c.requires in
    let a = c.args in
    let t = c.loop-next.invariant.0 in
    let high = t.high in
    omega (arith, p.1.column_most, p.1.near)

pub overflow_sub-width : goal.overflow_sub-width
overflow_sub-width c = let q = c.quick_width-width.ensures.1 (omega (arith, c.if-all-gt-LONGEST_LINE.false)) in omega (arith, q.1)

pub put_small-requires : goal.put_small-requires
put_small-requires c =
    let p = c.requires in
    let a = c.args in
    let t = c.loop-next.invariant.0 in
    let high = t.high in
    let low = t.low in
    let same = c.loop-next.invariant.1.same in
    let fits = c.if-all-gt-LONGEST_LINE.false in
    let q = c.quick_width-width.ensures.1 (omega (arith, fits)) in
    (p.0, c.base_of-base.ensures.1, q.2, omega (arith, q.1), omega (arith, fits, q.1, p.5, same))

pub loop-next-preserved : goal.loop-next-preserved
loop-next-preserved c =
    let p = c.requires in
    let a = c.args in
    let t = c.loop-next.invariant.0 in
    let high = t.high in
    let low = t.low in
    let z = c.ordinate_at-z.ensures in
    let fits = c.if-all-gt-LONGEST_LINE.false in
    let q = c.quick_width-width.ensures.1 (omega (arith, fits)) in
    let more : c.loop-next.next < length (ordinates a.ys.now) = omega (arith, c.loop-next-test.true, length-map a.ys.now ordinate_of) in
    let place : a.s.at - a.s.column + c.loop-next.column ≡ a.s.at + (c.loop-next.column - a.s.column) = omega (arith, p.1.column_most) in
    let over = rw place at c.put_small.ensures in
    let b = c.base_of-base.ensures.0 in
    let given : c.loop-next.next + 1 - 1 ≡ c.loop-next.next = omega arith in
    rw given (
      lone_next _ _ t _ _ more z.0 z.1 q.0 fits,
      lone_stored _ _ t _ _ _ _ c.loop-next.invariant.1 more z.0 z.1 q.0 fits c.distance-v.ensures b over,
    )

pub state_after-requires-2 : goal.state_after-requires-2
state_after-requires-2 c =
    let p = c.requires in
    let a = c.args in
    let t = c.loop-next.invariant.0 in
    let high = t.high in
    (t.low, omega (arith, p.1.column_most, p.1.near), omega (arith, p.1.near))

pub returns : goal.returns
returns c =
    let p = c.requires in
    let a = c.args in
    let t = c.loop-next.invariant.0 in
    let high = t.high in
    let all : c.loop-next.next ≡ length a.ys.now = omega (arith, p.2, c.loop-next-test.false) in
    rw (c.state_after-2.ensures, ← all) (c.loop-next.invariant.1, omega (arith, length-map a.ys.now ordinate_of))
