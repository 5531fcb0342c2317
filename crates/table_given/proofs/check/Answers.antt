-- `table_given::check` meets its contract: 1 outside the frame's limits, 2 where there are fewer ordinates than points, and else the frame.
-- where the frame is legal: it is that of the numbers given
use mathlib.Core.Path.{◌≡◌, sym, ◌∙◌}
use mir.Facts.{to_z-of_z}
use Rattle.frame.specs.Legal.{framed}
use Rattle.table_given.proofs.CheckSteps.{outside_refused, few_refused}
use Rattle.table_given.proofs.check.Goals as goal
use Rattle.std.specs.Prelude.{Some}

pub returns-then-ordinates-points : goal.returns-then-ordinates-points
returns-then-ordinates-points c =
    let legal_at : framed c.args.first c.args.last c.args.points ≡ Some c.in-Some.fr = sym (rw (to_z-of_z c.ranges.first, to_z-of_z c.ranges.last) at c.new.ensures) ∙ c.in-Some.is in
    few_refused _ _ _ _ legal_at c.if-ordinates-points.true

pub returns-in-None : goal.returns-in-None
returns-in-None c =
    outside_refused _ _ _ _ (sym (rw (to_z-of_z c.ranges.first, to_z-of_z c.ranges.last) at c.new.ensures) ∙ c.in-None.is)

pub returns-else-ordinates-points : goal.returns-else-ordinates-points
returns-else-ordinates-points c =
    let legal_at : framed c.args.first c.args.last c.args.points ≡ Some c.in-Some.fr = sym (rw (to_z-of_z c.ranges.first, to_z-of_z c.ranges.last) at c.new.ensures) ∙ c.in-Some.is in
    (legal_at, c.if-ordinates-points.false)
