-- `text_value_lines::fill_line` meets its contract: the values that fit on the line, one after the other.
use mathlib.Core.Path.{◌≡◌}
use mathlib.Core.List.{map}
use Prim.Native.Nat.{◌-◌}
use native.Mathlib.Omega.{arith}
use lib.ListN.{length, length-map}
use Rattle.table_spec.specs.Frame.{ordinate_of}
use Rattle.text_marks.specs.Shows.{shown}
use Rattle.text_value_lines.proofs.LineSteps.{filling_starts, filling_room, filling_more, filled_full, filled_end}
use Rattle.text_value_lines.proofs.fill_line.Goals as goal

pub loop-i-init : goal.loop-i-init
loop-i-init c =
    let a = c.args in
    filling_starts (shown a.m) (map ordinate_of a.ys.now) _ a.s (rw (length-map a.ys.now ordinate_of) c.requires.2)

pub overflow_add-next : goal.overflow_add-next
overflow_add-next c =
    let within = c.loop-i.invariant.within in
    let near = c.requires.2.near in
    omega (arith, c.width_of.ensures.1)

pub overflow_sub-result : goal.overflow_sub-result
overflow_sub-result c = let behind = c.loop-i.invariant.behind in omega arith

pub returns-then-full-next : goal.returns-then-full-next
returns-then-full-next c =
    let a = c.args in
    filled_full (shown a.m) (map ordinate_of a.ys.now) a.s (rw (length-map a.ys.now ordinate_of) c.requires.2) c.loop-i.invariant
    c.ordinate_at-u.ensures.0 c.width_of.ensures.0 c.width_of.ensures.1 c.if-full-next.true

pub put_value-requires : goal.put_value-requires
put_value-requires c =
    let p = c.requires in
    let a = c.args in
    let width = c.width_of.ensures.0 in (
      p.0.pairs_are,
      p.1,
      c.ordinate_at-u.ensures.1,
      omega (arith, width),
      filling_room (shown a.m) (map ordinate_of a.ys.now) a.s (rw (length-map a.ys.now ordinate_of) p.2) c.loop-i.invariant
          (omega (arith, c.loop-i-test.true, length-map a.ys.now ordinate_of)) c.ordinate_at-u.ensures.0 width c.if-full-next.false p.3,
    )

pub loop-i-preserved : goal.loop-i-preserved
loop-i-preserved c =
    let a = c.args in
    filling_more (shown a.m) (map ordinate_of a.ys.now) c.loop-i.invariant (omega (arith, c.loop-i-test.true, length-map a.ys.now ordinate_of))
    c.ordinate_at-u.ensures.0 c.width_of.ensures.0 c.if-full-next.false c.put_value.ensures

pub overflow_sub-result-2 : goal.overflow_sub-result-2
overflow_sub-result-2 c = let behind = c.loop-i.invariant.behind in omega arith

pub returns : goal.returns
returns c =
    let a = c.args in
    let left = c.requires.2.left in
    let all : c.loop-i.i ≡ length a.ys.now = omega (arith, c.loop-i-test.false) in
    rw (← all)
    (filled_end (shown a.m) (map ordinate_of a.ys.now) a.s (rw (length-map a.ys.now ordinate_of) c.requires.2) c.loop-i.invariant
    (omega (arith, c.loop-i-test.false, length-map a.ys.now ordinate_of)))
