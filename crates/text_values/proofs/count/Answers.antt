-- `text_values::count` meets its contract: one line after the other, each its head, the values that fit, and its end, with nothing stored.
use mathlib.Core.Path.{refl, ap, ◌∙◌}
use mathlib.Core.List.{[], ◌∷◌, map}
use Prim.Native.Nat.{◌-◌}
use native.Mathlib.Omega.{arith}
use lib.ListN.{length, length-map}
use Rattle.table_spec.specs.Frame.{ordinate_of}
use Rattle.table_text.specs.Pieces.{head_of}
use Rattle.text_marks.specs.Shows.{shown}
use Rattle.text_values.proofs.FormSteps.{fits_new}
use Rattle.text_value_lines.proofs.LineSteps.{put_nothing, starts, opens, goes, ends, whole_is}
use Rattle.text_values.proofs.count.Goals as goal

pub loop-i-init : goal.loop-i-init
loop-i-init c = let a = c.args in starts (shown a.m) (head_of a.fr) (map ordinate_of a.ys.now) []

pub head_bytes-column-requires : goal.head_bytes-column-requires
head_bytes-column-requires c = let p = c.requires in (p.1, omega (arith, c.loop-i-test.true, p.2))

pub overflow_add-s : goal.overflow_add-s
overflow_add-s c =
    let most = c.loop-i.invariant.most in
    let few = c.requires.1.few in
    omega (arith, c.head_bytes-column.ensures.1, c.loop-i-test.true, c.requires.2)

pub count_line-r-requires : goal.count_line-r-requires
count_line-r-requires c =
    let a = c.args in
    let same = length-map a.ys.now ordinate_of in
    let head = c.head_bytes-column.ensures in
    let few = c.requires.1.few in (
      c.requires.0,
      rw (← same)
          (opens (shown a.m) (head_of a.fr) (map ordinate_of a.ys.now) c.loop-i.invariant _ (omega (arith, c.loop-i-test.true, same)) (put_nothing [] _ _ _ refl head.0) refl
          (omega (arith, same, c.requires.2)) head.1),
    )

pub overflow_add-at : goal.overflow_add-at
overflow_add-at c =
    let most = c.loop-i.invariant.most in
    let far = c.count_line-r.ensures.most in
    let few = c.requires.1.few in
    omega (arith, c.head_bytes-column.ensures.1, c.loop-i-test.true, c.requires.2)

pub loop-i-smaller : goal.loop-i-smaller
loop-i-smaller c = let on = c.count_line-r.ensures.on in omega (arith, c.loop-i-test.true)

pub loop-i-preserved : goal.loop-i-preserved
loop-i-preserved c =
    let a = c.args in
    let same = length-map a.ys.now ordinate_of in
    let head = c.head_bytes-column.ensures in
    goes (shown a.m) (head_of a.fr) (map ordinate_of a.ys.now) c.loop-i.invariant _ (omega (arith, c.loop-i-test.true, same)) (put_nothing [] _ _ _ refl head.0) refl
    (fits_new a.m a.fr c.requires.1 (map ordinate_of a.ys.now) (same ∙ c.requires.2)) head.1 c.count_line-r.ensures (put_nothing [] _ 2 (13 ∷ 10 ∷ []) refl refl)

pub returns : goal.returns
returns c =
    let a = c.args in
    let same = length-map a.ys.now ordinate_of in
    let some = c.requires.1.some in
    let whole = ap length (whole_is (shown a.m) (head_of a.fr) (map ordinate_of a.ys.now) (omega (arith, same, c.requires.2))) in
    omega (arith, whole, (ends (shown a.m) (head_of a.fr) (map ordinate_of a.ys.now) c.loop-i.invariant (omega (arith, c.loop-i-test.false, same))).next)
