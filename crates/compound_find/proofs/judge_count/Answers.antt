-- `compound_find::judge_count` meets its contract: BLOCKS against the count.
use Rattle.std.specs.Prelude.{Err}
use mathlib.Core.Path.{ap}
use Rattle.compound_find.proofs.FindTurns.{count_bad, count_right, count_wrong}
use Rattle.compound_find.proofs.judge_count.Goals as goal

pub returns-then-value-count : goal.returns-then-value-count
returns-then-value-count c = count_right _ _ _ _ c.count_in.ensures.0 _ _ c.in-Some.is c.if-value-count.true

pub returns-in-None : goal.returns-in-None
returns-in-None c = count_bad _ _ _ _ c.count_in.ensures.0 c.in-None.is _ c.mark_in.ensures _ (ap Err c.of.ensures)

pub returns-else-value-count : goal.returns-else-value-count
returns-else-value-count c =
    count_wrong _ _ _ _ c.count_in.ensures.0 _ _ c.in-Some.is c.if-value-count.false _ c.mark_in-in-Some.ensures _ (ap Err c.of-in-Some.ensures)
