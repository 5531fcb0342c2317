-- `text_length::count_line` meets its contract: the groups that fit on the line.
use mathlib.Core.Path.{refl, ap}
use Prim.Native.Nat.{◌-◌}
use native.Mathlib.Omega.{arith}
use lib.ListN.{length-map}
use Rattle.table_spec.specs.Frame.{ordinate_of}
use Rattle.table_text.specs.Pieces.{ordinates}
use Rattle.text_openings.specs.declared.State.{State}
use Rattle.text_differences.proofs.LoneSteps.{counted_none, counted_then, counted_group}
use Rattle.text_length.proofs.CountSteps.{counted_near, full_here, full_end}
use Rattle.text_length.proofs.count_line.Goals as goal

pub loop-r-init : goal.loop-r-init
loop-r-init c =
    let a = c.args in
    let p = c.requires in
    counted_none _ a.s p.0.started (omega (arith, p.1, length-map a.ys.now ordinate_of)) p.0.column_most

pub count_differences-t-requires : goal.count_differences-t-requires
count_differences-t-requires c =
    let a = c.args in
    let p = c.requires.0 in
    let t = c.loop-r.invariant in
    let l = length-map a.ys.now ordinate_of in
    let near = counted_near _ t (omega (arith, p.few)) in
    (record { started = t.started; few = p.few; column_most = t.column_most; near = omega (arith, p.near) }, omega (arith, c.loop-r-test.true))

pub find-g-requires : goal.find-g-requires
find-g-requires c = let e = c.count_differences-t.ensures in (e.1, c.requires.0.few, e.0.started.small)

pub overflow_add-t : goal.overflow_add-t
overflow_add-t c =
    let a = c.args in
    let p = c.requires.0 in
    let l = length-map a.ys.now ordinate_of in
    let t = c.loop-r.invariant in
    let e = c.count_differences-t.ensures in
    let slim = c.find-g.ensures.slim in
    let m = e.0.column_most in
    let near = counted_near _ (counted_then _ t e.0) (omega (arith, p.few)) in
    omega (arith, p.near)

pub returns-then-t-g-gt-LONGEST_LINE : goal.returns-then-t-g-gt-LONGEST_LINE
returns-then-t-g-gt-LONGEST_LINE c =
    let x = counted_then _ c.loop-r.invariant c.count_differences-t.ensures.0 in
    (x, full_here _ _ _ _ x c.find-g.ensures c.if-t-g-gt-LONGEST_LINE.true)

pub after_group-r-requires : goal.after_group-r-requires
after_group-r-requires c =
    let a = c.args in
    let p = c.requires.0 in
    let l = length-map a.ys.now ordinate_of in
    let t = c.loop-r.invariant in
    let e = c.count_differences-t.ensures in
    (c.find-g.ensures, p.few, e.0.column_most, omega (arith, p.near, counted_near _ (counted_then _ t e.0) (omega (arith, p.few))))

pub loop-r-smaller : goal.loop-r-smaller
loop-r-smaller c =
    let on = c.count_differences-t.ensures.0.on in
    omega (arith, ap (λ (x : State). x.given) c.after_group-r.ensures.0, c.loop-r-test.true)

pub loop-r-preserved : goal.loop-r-preserved
loop-r-preserved c =
    let d = c.count_differences-t.ensures.0 in
    let e = c.after_group-r.ensures in
    let g = counted_group (ordinates c.args.ys.now) _ _ c.find-g.ensures c.if-t-g-gt-LONGEST_LINE.false d.column_most _ refl (rw e.0 at e.1) in
    rw e.0 (counted_then _ c.loop-r.invariant (counted_then _ d g.0))

pub returns : goal.returns
returns c =
    let a = c.args in
    let t = c.loop-r.invariant in
    (t, full_end _ _ _ (omega (arith, c.loop-r-test.false, length-map a.ys.now ordinate_of)))
