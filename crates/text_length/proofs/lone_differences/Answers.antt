-- `text_length::lone_differences` meets its contract: points in DIF form without DUP, after one in DIF form, as long as they fit on the line.
use mathlib.Core.Path.{◌≡◌, refl}
use Prim.Native.Nat.{◌+◌, ◌-◌}
use native.Mathlib.Omega.{arith}
use lib.ListN.{length, length-map}
use Rattle.table_spec.specs.Frame.{ordinate_of}
use Rattle.text_differences.proofs.LoneSteps.{lone_start, lone_next}
use Rattle.text_length.proofs.lone_differences.Goals as goal

pub loop-next-init : goal.loop-next-init
loop-next-init c =
    let a = c.args in
    let p = c.requires in
    let y = c.ordinate_at-y.ensures in
    let given : a.s.given + 1 - 1 ≡ a.s.given = omega arith in
    rw given
    (lone_start _ a.s _ p.0.started p.2 p.3 (omega (arith, p.1, length-map a.ys.now ordinate_of)) p.0.column_most y.0 y.1)

pub lone_width-requires : goal.lone_width-requires
lone_width-requires c = let t = c.loop-next.invariant in (t.counted.started.small, t.small, c.ordinate_at-z.ensures.1)

pub overflow_add-all : goal.overflow_add-all
overflow_add-all c =
    let t = c.loop-next.invariant in
    let high = t.high in
    let p = c.requires.0 in
    omega (arith, c.lone_width.ensures.1, p.column_most, p.near)

pub state_after-requires : goal.state_after-requires
state_after-requires c =
    let t = c.loop-next.invariant in
    let high = t.high in
    let p = c.requires.0 in
    (t.low, omega (arith, p.column_most, p.near), omega (arith, p.near))

pub returns-then-all-gt-LONGEST_LINE : goal.returns-then-all-gt-LONGEST_LINE
returns-then-all-gt-LONGEST_LINE c =
    let a = c.args in
    let t = c.loop-next.invariant in
    let inside = t.inside in
    rw c.state_after.ensures (t.counted, omega (arith, length-map a.ys.now ordinate_of), refl, t.some)

pub loop-next-preserved : goal.loop-next-preserved
loop-next-preserved c =
    let t = c.loop-next.invariant in
    let a = c.args in
    let z = c.ordinate_at-z.ensures in
    let given : c.loop-next.next + 1 - 1 ≡ c.loop-next.next = omega arith in
    rw given
    (lone_next _ _ t _ _ (omega (arith, c.loop-next-test.true, length-map a.ys.now ordinate_of)) z.0 z.1 c.lone_width.ensures.0 c.if-all-gt-LONGEST_LINE.false)

pub state_after-requires-2 : goal.state_after-requires-2
state_after-requires-2 c =
    let t = c.loop-next.invariant in
    let high = t.high in
    let p = c.requires.0 in
    (t.low, omega (arith, p.column_most, p.near), omega (arith, p.near))

pub returns : goal.returns
returns c =
    let a = c.args in
    let t = c.loop-next.invariant in
    let all : c.loop-next.next ≡ length a.ys.now = omega (arith, c.requires.1, c.loop-next-test.false) in
    rw (c.state_after-2.ensures, ← all) (t.counted, omega (arith, length-map a.ys.now ordinate_of), refl, t.some)
