-- `text_points::count_points` meets its contract: the groups from a point on, point by point.
use mathlib.Core.Path.{◌≡◌, refl}
use Prim.Native.Nat.{◌+◌, ◌-◌}
use native.Mathlib.Omega.{arith}
use lib.Dec.{eqb}
use lib.ListN.{length, length-map}
use Rattle.table_spec.specs.Frame.{ordinate_of}
use Rattle.text_points.proofs.PointSteps.{pick_most, points_start, points_reach, points_counted, points_next}
use Rattle.text_points.proofs.count_points.Goals as goal

pub loop-next-init : goal.loop-next-init
loop-next-init c =
    let a = c.args in
    let p = c.requires in
    points_start _ a.s _ _ p.0.started p.2 p.3 (omega (arith, p.1, length-map a.ys.now ordinate_of)) p.0.column_most p.4

pub overflow_sub-next : goal.overflow_sub-next
overflow_sub-next c = omega (arith, points_reach c.loop-next.invariant)

pub overflow_sub-next-then-z-eq0 : goal.overflow_sub-next-then-z-eq0
overflow_sub-next-then-z-eq0 c = omega (arith, points_reach c.loop-next.invariant)

pub state_after-requires : goal.state_after-requires
state_after-requires c =
    let t = c.loop-next.invariant in
    let high = t.high in
    let fits = t.fits in
    (t.low, omega arith, c.requires.0.near)

pub returns-then-z-eq0 : goal.returns-then-z-eq0
returns-then-z-eq0 c =
    let a = c.args in
    let t = c.loop-next.invariant in
    let inside = t.inside in
    rw c.state_after.ensures (t.counted, omega (arith, points_reach t, length-map a.ys.now ordinate_of))

pub overflow_add-again : goal.overflow_add-again
overflow_add-again c = omega (arith, c.loop-next.invariant.p_small, c.ordinate_at-z.ensures.1)

pub overflow_add-again-in-loop-next : goal.overflow_add-again-in-loop-next
overflow_add-again-in-loop-next c = omega (arith, c.loop-next.invariant.y_small)

pub dif_width-width-requires : goal.dif_width-width-requires
dif_width-width-requires c = (c.loop-next.invariant.y_small, c.ordinate_at-z.ensures.1)

pub overflow_add-more : goal.overflow_add-more
overflow_add-more c =
    let t = c.loop-next.invariant in
    let a = c.args in
    let inside = t.inside in
    omega (arith, points_reach t, c.requires.0.few, length-map a.ys.now ordinate_of)

pub overflow_add-column : goal.overflow_add-column
overflow_add-column c =
    let t = c.loop-next in
    let fits = t.invariant.fits in
    let z = c.ordinate_at-z.result in
    let m = pick_most (eqb (t.p + z) (t.y + t.y)) _ _ c.copy_width-copy.ensures.0 c.dif_width-width.ensures.1 in
    omega (arith, c.one_of-wider.ensures, m)

pub overflow_sub-next-then-column-gt-LONGEST_LINE : goal.overflow_sub-next-then-column-gt-LONGEST_LINE
overflow_sub-next-then-column-gt-LONGEST_LINE c =
    let a = c.args in
    let l = length-map a.ys.now ordinate_of in
    let z = c.ordinate_at-z.ensures in
    let j = c.loop-next-test.true in
    let left = c.if-z-eq0.false in
    let k = points_counted _ _ c.loop-next.invariant _ (omega (arith, j, l)) z.0 z.1 (omega (arith, left)) _ refl in
    rw c.one_of-more.ensures k.3

pub state_after-requires-then-column-gt-LONGEST_LINE : goal.state_after-requires-then-column-gt-LONGEST_LINE
state_after-requires-then-column-gt-LONGEST_LINE c =
    let a = c.args in
    let l = length-map a.ys.now ordinate_of in
    let z = c.ordinate_at-z.ensures in
    let j = c.loop-next-test.true in
    let left = c.if-z-eq0.false in
    let k = points_counted _ _ c.loop-next.invariant _ (omega (arith, j, l)) z.0 z.1 (omega (arith, left)) _ refl in
    rw c.one_of-start.ensures (k.1, omega (arith, k.2), c.requires.0.near)

pub returns-then-column-gt-LONGEST_LINE : goal.returns-then-column-gt-LONGEST_LINE
returns-then-column-gt-LONGEST_LINE c =
    let a = c.args in
    let l = length-map a.ys.now ordinate_of in
    let z = c.ordinate_at-z.ensures in
    let j = c.loop-next-test.true in
    let left = c.if-z-eq0.false in
    let t = c.loop-next.invariant in
    let k = points_counted _ _ t _ (omega (arith, j, l)) z.0 z.1 (omega (arith, left)) _ refl in
    rw (c.state_after-then-column-gt-LONGEST_LINE.ensures, c.one_of-more.ensures, c.one_of-before.ensures, c.one_of-start.ensures)
    (k.0, omega (arith, j))

pub loop-next-preserved : goal.loop-next-preserved
loop-next-preserved c =
    let a = c.args in
    let l = length-map a.ys.now ordinate_of in
    let z = c.ordinate_at-z.ensures in
    let j = c.loop-next-test.true in
    let left = c.if-z-eq0.false in
    let w = c.one_of-wider.ensures in
    let t = c.loop-next.invariant in
    let copy = c.copy_width-copy.ensures.1 in
    let width = c.dif_width-width.ensures.0 in
    rw (c.one_of-before.ensures, c.one_of-start.ensures, w, c.one_of-more.ensures)
    (points_next _ _ t _ (omega (arith, j, l)) z.0 z.1 (omega (arith, left)) _ _ _ refl copy width (rw w at c.if-column-gt-LONGEST_LINE.false))

pub state_after-requires-2 : goal.state_after-requires-2
state_after-requires-2 c =
    let t = c.loop-next.invariant in
    let high = t.high in
    let fits = t.fits in
    (t.low, omega arith, c.requires.0.near)

pub returns : goal.returns
returns c =
    let a = c.args in
    let t = c.loop-next.invariant in
    let all : c.loop-next.next ≡ length a.ys.now = omega (arith, c.requires.1, c.loop-next-test.false) in
    rw (c.state_after-2.ensures, ← all) (t.counted, omega (arith, points_reach t, length-map a.ys.now ordinate_of))

pub overflow_sub-ys : goal.overflow_sub-ys
overflow_sub-ys c = omega (arith, c.requires.1)

pub overflow_sub-ys-2 : goal.overflow_sub-ys-2
overflow_sub-ys-2 c =
    let t = c.loop-next.invariant in
    let inside = t.inside in
    omega (arith, points_reach t, length-map c.args.ys.now ordinate_of)
