-- `text_values::pass` meets its contract: one line after the other, each its head, the values that fit, and its end.
use mathlib.Core.Path.{◌∙◌, ap}
use mathlib.Core.List.{map}
use Prim.Native.Nat.{◌-◌}
use native.Mathlib.Omega.{arith}
use lib.ListN.{length, length-map}
use Rattle.table_spec.specs.Frame.{ordinate_of}
use Rattle.table_text.specs.Pieces.{head_of, put_as}
use Rattle.text_marks.specs.Shows.{shown}
use Rattle.text_values.proofs.FormSteps.{fits_new}
use Rattle.text_value_lines.proofs.LineSteps.{starts, opens, room_left, end_lent, goes, ends, whole_is}
use Rattle.text_values.proofs.pass.Goals as goal

pub loop-i-init : goal.loop-i-init
loop-i-init c = let a = c.args in starts (shown a.m) (head_of a.fr) (map ordinate_of a.ys.now) _

pub put_head-head-requires : goal.put_head-head-requires
put_head-head-requires c =
    let p = c.requires in
    let most = c.loop-i.invariant.most in
    let few = p.2.few in
    (p.2, omega (arith, c.loop-i-test.true, p.3), omega (arith, c.loop-i-test.true, p.3))

pub overflow_sub-s : goal.overflow_sub-s
overflow_sub-s c = let next = c.put_head-head.ensures.0.next in omega arith

pub fill_line-r-requires : goal.fill_line-r-requires
fill_line-r-requires c =
    let p = c.requires in
    let a = c.args in
    let same = length-map a.ys.now ordinate_of in
    let put = c.put_head-head.ensures in
    let next = put.0.next in
    let few = p.2.few in
    let some = p.2.some in
    let whole = ap length (whole_is (shown a.m) (head_of a.fr) (map ordinate_of a.ys.now) (omega (arith, same, p.3))) in (
      p.0,
      p.1,
      rw (← same)
          (opens (shown a.m) (head_of a.fr) (map ordinate_of a.ys.now) c.loop-i.invariant _ (omega (arith, c.loop-i-test.true, same)) put.0 (omega arith)
          (omega (arith, same, p.3)) (omega (arith, put.1))),
      room_left (shown a.m) (head_of a.fr) (map ordinate_of a.ys.now) c.loop-i.invariant _ (omega (arith, c.loop-i-test.true, same)) put.0 (omega arith) (omega (arith, whole, p.4)),
    )

pub store_end-at-requires : goal.store_end-at-requires
store_end-at-requires c =
    let p = c.requires in
    let a = c.args in
    let same = length-map a.ys.now ordinate_of in
    let put = c.put_head-head.ensures in
    let next = put.0.next in
    let most = c.loop-i.invariant.most in
    let far = c.fill_line-r.ensures.most in
    let few = p.2.few in
    let some = p.2.some in
    let whole = ap length (whole_is (shown a.m) (head_of a.fr) (map ordinate_of a.ys.now) (omega (arith, same, p.3))) in (
      end_lent (shown a.m) (head_of a.fr) (map ordinate_of a.ys.now) c.loop-i.invariant _ (omega (arith, c.loop-i-test.true, same)) put.0 (omega arith)
          (fits_new a.m a.fr p.2 (map ordinate_of a.ys.now) (same ∙ p.3)) (omega (arith, whole, p.4)) c.fill_line-r.ensures,
      omega (arith, put.1, c.loop-i-test.true, p.3),
    )

pub loop-i-smaller : goal.loop-i-smaller
loop-i-smaller c =
    let on = c.fill_line-r.ensures.on in
    omega (arith, c.loop-i-test.true)

pub loop-i-preserved : goal.loop-i-preserved
loop-i-preserved c =
    let a = c.args in
    let same = length-map a.ys.now ordinate_of in
    let put = c.put_head-head.ensures in
    let next = put.0.next in
    goes (shown a.m) (head_of a.fr) (map ordinate_of a.ys.now) c.loop-i.invariant _ (omega (arith, c.loop-i-test.true, same)) put.0 (omega arith)
    (fits_new a.m a.fr c.requires.2 (map ordinate_of a.ys.now) (same ∙ c.requires.3)) (omega (arith, put.1)) c.fill_line-r.ensures c.store_end-at.ensures

pub returns : goal.returns
returns c =
    let a = c.args in
    let same = length-map a.ys.now ordinate_of in
    let some = c.requires.2.some in
    put_as (whole_is (shown a.m) (head_of a.fr) (map ordinate_of a.ys.now) (omega (arith, same, c.requires.3)))
    (ends (shown a.m) (head_of a.fr) (map ordinate_of a.ys.now) c.loop-i.invariant (omega (arith, c.loop-i-test.false, same)))
