-- `text_forms::pass` meets its contract: the whole text from the start of the lent bytes.
use mathlib.Core.Path.{refl, ◌∙◌}
use Prim.Native.Nat.{◌-◌}
use native.Mathlib.Omega.{arith}
use lib.ListN.{length-map}
use Rattle.table_spec.specs.Frame.{ordinate_of}
use Rattle.table_text.specs.Pieces.{head_of, ordinates}
use Rattle.text_digits.specs.Pairs.{pairs}
use Rattle.text_differences.specs.Small.{scales}
use Rattle.text_openings.proofs.LineSteps.{starts, goes, going_near, finish}
use Rattle.text_differences.proofs.LoneSteps.{goes_on}
use Rattle.text_forms.proofs.pass.Goals as goal

pub loop-s-init : goal.loop-s-init
loop-s-init c = let e = c.begin-s.ensures in starts _ _ _ _ _ e.0 e.1

pub put_differences-r-requires : goal.put_differences-r-requires
unfolding pairs scales
put_differences-r-requires c =
    let a = c.args in
    let p = c.requires in
    let g₀ = c.loop-s.invariant in
    let l₁ = length-map a.ys.now ordinate_of in
    let few = p.0.few in
    let i = g₀.is in
    let near = going_near _ _ g₀ (omega (arith, p.1)) in (
      record { pairs_are = refl; scales_are = refl },
      record { started = g₀.started; few = omega (arith, p.1); column_most = g₀.column_most; near = omega arith },
      omega (arith, c.loop-s-test.true),
    )

pub turn-s-requires : goal.turn-s-requires
turn-s-requires c =
    let a = c.args in
    let p = c.requires in
    let g₀ = c.loop-s.invariant in
    let d = c.put_differences-r.ensures in
    let g = goes_on g₀ d.0 in
    let l₁ = length-map a.ys.now ordinate_of in
    let few = p.0.few in
    let near = going_near _ _ g (omega (arith, p.1)) in
    (record { sound = p.0; all = p.1; started = g.started; some = d.1; near = omega arith }, g.column_most)

pub loop-s-smaller : goal.loop-s-smaller
loop-s-smaller c =
    let a = c.args in
    let p = c.requires in
    let g₀ = c.loop-s.invariant in
    let on = c.turn-s.ensures.on in
    let later = c.put_differences-r.ensures.0.counted.on in
    let i = g₀.is in
    omega (arith, c.loop-s-test.true)

pub loop-s-preserved : goal.loop-s-preserved
loop-s-preserved c =
    let a = c.args in
    let p = c.requires in
    let g₀ = c.loop-s.invariant in
    goes _ _ (goes_on g₀ c.put_differences-r.ensures.0) c.turn-s.ensures

pub finish-requires : goal.finish-requires
finish-requires c =
    let a = c.args in
    let p = c.requires in
    let g = c.loop-s.invariant in
    let l = length-map a.ys.now ordinate_of in
    let few = p.0.few in
    (p.0, g.started.small, omega (arith, going_near _ _ g (omega (arith, p.1))))

pub returns : goal.returns
returns c =
    let a = c.args in
    let p = c.requires in
    let l = length-map a.ys.now ordinate_of in
    let some = p.0.some in
    let e = c.begin-s.ensures in
    finish (head_of a.fr) (ordinates a.ys.now) _ (omega (arith, p.1)) e.0 e.1 e.2
    c.loop-s.invariant
    (omega (arith, c.loop-s-test.false)) (l ∙ p.1) c.finish.ensures
