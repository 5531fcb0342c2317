-- `text_length::measure` meets its contract: the text's length.
use mathlib.Core.Path.{ap, ◌∙◌}
use Prim.Native.Nat.{◌-◌}
use native.Mathlib.Omega.{arith}
use lib.ListN.{length-map}
use Rattle.table_spec.specs.Frame.{ordinate_of}
use Rattle.text_openings.specs.declared.State.{State}
use Rattle.table_text.specs.Pieces.{head_of, put_length, ordinates}
use Rattle.text_openings.proofs.LineSteps.{starts, goes, going_near, finish}
use Rattle.text_length.proofs.measure.Goals as goal

pub loop-s-init : goal.loop-s-init
loop-s-init c =
    let e = c.begin-s.ensures in
    (starts _ _ _ _ _ e.0 e.1, λ _. omega (arith, e.1, ap (λ (x : State). x.column) e.0))

pub count_turn-s-requires : goal.count_turn-s-requires
count_turn-s-requires c =
    let a = c.args in
    let p = c.requires in
    let x = c.loop-s.invariant in
    let g = x.0 in
    let l = length-map a.ys.now ordinate_of in
    let few = p.0.few in
    let i = g.is in
    let same = g.same in
    let left = c.loop-s-test.true in (
      record { sound = p.0; all = p.1; started = g.started; some = omega arith; near = going_near _ _ g (omega (arith, p.1)) },
      g.column_most,
      x.1 (omega arith),
      omega (arith, p.2, put_length c.begin-s.ensures.2),
    )

pub loop-s-smaller : goal.loop-s-smaller
loop-s-smaller c =
    let w = c.count_turn-s.ensures.0 in
    let g = c.loop-s.invariant.0 in
    let on = w.on in
    let i = g.is in
    omega (arith, c.loop-s-test.true)

pub loop-s-preserved : goal.loop-s-preserved
loop-s-preserved c = let e = c.count_turn-s.ensures in (goes _ _ c.loop-s.invariant.0 e.0, e.1)

pub finish-requires : goal.finish-requires
finish-requires c =
    let a = c.args in
    let p = c.requires in
    let g = c.loop-s.invariant.0 in
    let l = length-map a.ys.now ordinate_of in
    let few = p.0.few in
    (p.0, g.started.small, omega (arith, going_near _ _ g (omega (arith, p.1))))

pub returns : goal.returns
returns c =
    let a = c.args in
    let p = c.requires in
    let l = length-map a.ys.now ordinate_of in
    let some = p.0.some in
    let e = c.begin-s.ensures in
    let z = finish (head_of a.fr) (ordinates a.ys.now) _ (omega (arith, p.1)) e.0 e.1 e.2
    c.loop-s.invariant.0
    (omega (arith, c.loop-s-test.false)) (l ∙ p.1) c.finish.ensures in
    z.next ∙ omega arith
