-- `plain_values::own_points` meets its contract: an ordinate of its own, or 9.
use Rattle.table_ordinates.proofs.Moves.{own_reach}
use Rattle.plain_values.proofs.ValueLaws.{own_not, own_is}
use Rattle.plain_values.proofs.own_points.Goals as goal

pub returns-then-v-gt2147483647 : goal.returns-then-v-gt2147483647
returns-then-v-gt2147483647 c = let a = c.args in own_not a.minus a.v c.if-v-gt2147483647.true

pub moved_by-last-requires : goal.moved_by-last-requires
moved_by-last-requires c = let a = c.args in own_reach a.minus a.v c.if-v-gt2147483647.false

pub returns : goal.returns
returns c = let a = c.args in own_is a.minus a.v _ c.if-v-gt2147483647.false c.moved_by-last.ensures
