-- `text_points::count_points` meets its contract: the groups from a point on, point by point.
use Rattle.table_text.specs.Pieces.{ordinates}
use Rattle.text_points.proofs.PointSteps.{PointsTo}
use Rattle.text_points.proofs.count_points.Given as goal

abbrev pub invariant-loop-next : goal.invariant-loop-next
invariant-loop-next l = PointsTo (ordinates l.ys) l.s l.p l.y l.before l.start l.column l.more l.next
