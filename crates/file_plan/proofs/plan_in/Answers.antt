-- `file_plan::plan_in` meets its contract: 1, 2 and 29, and else the plan.
-- where the frame is made, and the start from there
use mathlib.Core.Path.{◌≡◌, sym, ap, ◌∙◌}
use mathlib.Core.Bool.{true}
use Prim.Native.Nat.{◌≤◌}
use native.Mathlib.Omega.{arith}
use lib.IntN.{pos}
use lib.ListN.{get_or}
use mir.Syntax.{w32}
use mir.Facts.{to_z-of_z}
use borrow.Author.Rules.{sfits_of}
use Rattle.table_spec.specs.Frame.{frame_legal, ordinate_of}
use Rattle.frame.specs.FrameLaws.{framed_legal, framed_outside}
use Rattle.file_spec.specs.Figures.{ratio, agrees, exactness_of}
use Rattle.figure.specs.Carried.{carried_exact}
use Rattle.file_plan.specs.Stages.{exact_in}
use Rattle.file_plan.proofs.StageSteps.{all_writable, framing_points, first_ordinate, outside, too_few, unequal, equal}
use Rattle.file_plan.proofs.plan_in.Goals as goal

pub returns-then-ordinates-points : goal.returns-then-ordinates-points
returns-then-ordinates-points c =
    let legal_at : frame_legal c.args.first c.args.last c.args.n.npoints ≡ true = (framed_legal _ _ _ (sym (rw (to_z-of_z c.ranges.first, to_z-of_z c.ranges.last) at c.new.ensures) ∙ c.in-Some.is)).legal in
    let a = c.args in
    λ title _ space. too_few title a.n a.ordinates.now space a.first a.last legal_at c.if-ordinates-points.true

pub bounds-ordinates-0 : goal.bounds-ordinates-0
bounds-ordinates-0 c =
    let points_at : (1 ≤ c.args.n.npoints) × (c.args.n.npoints ≤ 65536) = framing_points (framed_legal _ _ _ (sym (rw (to_z-of_z c.ranges.first, to_z-of_z c.ranges.last) at c.new.ensures) ∙ c.in-Some.is)) in
    let p = points_at in omega (arith, p.0, c.if-ordinates-points.false)

pub returns-then-not-agree : goal.returns-then-not-agree
returns-then-not-agree c =
    let compared : c.agree.result ≡ agrees (ordinate_of (get_or c.args.ordinates.now 0 (pos 0))) (ratio 0 c.args.n.firsty c.args.n.yfactor).rounded = let first = get_or c.args.ordinates.now 0 (pos 0) in
    rw (to_z-of_z (sfits_of {w = w32} {z = first} c.agree-arg-1.given), c.ratio_of-q.ensures.0) at c.agree.ensures in
    let legal_at : frame_legal c.args.first c.args.last c.args.n.npoints ≡ true = (framed_legal _ _ _ (sym (rw (to_z-of_z c.ranges.first, to_z-of_z c.ranges.last) at c.new.ensures) ∙ c.in-Some.is)).legal in
    let points_at : (1 ≤ c.args.n.npoints) × (c.args.n.npoints ≤ 65536) = framing_points (framed_legal _ _ _ (sym (rw (to_z-of_z c.ranges.first, to_z-of_z c.ranges.last) at c.new.ensures) ∙ c.in-Some.is)) in
    let a = c.args in
    let no = sym compared ∙ c.if-not-agree.true in
    λ title _ space. unequal title a.n a.ordinates.now space a.first a.last legal_at c.if-ordinates-points.false points_at.0 no

pub bounds-ordinates-0-in-Some : goal.bounds-ordinates-0-in-Some
bounds-ordinates-0-in-Some c =
    let points_at : (1 ≤ c.args.n.npoints) × (c.args.n.npoints ≤ 65536) = framing_points (framed_legal _ _ _ (sym (rw (to_z-of_z c.ranges.first, to_z-of_z c.ranges.last) at c.new.ensures) ∙ c.in-Some.is)) in
    let p = points_at in omega (arith, p.0, c.if-ordinates-points.false)

pub returns-in-None : goal.returns-in-None
returns-in-None c =
    let a = c.args in
    let out = framed_outside _ _ _ (sym (rw (to_z-of_z c.ranges.first, to_z-of_z c.ranges.last) at c.new.ensures) ∙ c.in-None.is) in
    λ title _ space. outside title a.n a.ordinates.now space a.first a.last out

pub returns-else-not-agree : goal.returns-else-not-agree
returns-else-not-agree c =
    let compared : c.agree.result ≡ agrees (ordinate_of (get_or c.args.ordinates.now 0 (pos 0))) (ratio 0 c.args.n.firsty c.args.n.yfactor).rounded = let first = get_or c.args.ordinates.now 0 (pos 0) in
    rw (to_z-of_z (sfits_of {w = w32} {z = first} c.agree-arg-1.given), c.ratio_of-q.ensures.0) at c.agree.ensures in
    let points_at : (1 ≤ c.args.n.npoints) × (c.args.n.npoints ≤ 65536) = framing_points (framed_legal _ _ _ (sym (rw (to_z-of_z c.ranges.first, to_z-of_z c.ranges.last) at c.new.ensures) ∙ c.in-Some.is)) in
    let legal_at : frame_legal c.args.first c.args.last c.args.n.npoints ≡ true = (framed_legal _ _ _ (sym (rw (to_z-of_z c.ranges.first, to_z-of_z c.ranges.last) at c.new.ensures) ∙ c.in-Some.is)).legal in
    let exact_here : c.exact_with-exact.result ≡ exact_in c.args.n c.args.ordinates.now = let a = c.args in
    let first = get_or c.args.ordinates.now 0 (pos 0) in
    let read = first_ordinate a.n.npoints a.ordinates.now points_at.0 c.if-ordinates-points.false in
    rw (to_z-of_z (sfits_of {w = w32} {z = first} c.exact_with-arg-1.given), c.ratio_of-q.ensures.0) at c.exact_with-exact.ensures
    ∙ carried_exact (ordinate_of first) c.requires.1 ∙ ap (exactness_of a.n) (sym read) in
    let a = c.args in
    let yes = sym compared ∙ c.if-not-agree.false in
    rw (to_z-of_z c.ranges.first, to_z-of_z c.ranges.last) (λ title short. record {
      titled = short;
      writable = all_writable c.requires.0 points_at.1;
      framed = record { legal = legal_at; enough = c.if-ordinates-points.false };
      exact = exact_here;
      text = λ space. equal title a.n a.ordinates.now space a.first a.last legal_at c.if-ordinates-points.false points_at.0 yes;
    })
