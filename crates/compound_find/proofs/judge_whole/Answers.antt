-- `compound_find::judge_whole` meets its contract: LINK or not, then BLOCKS.
use Rattle.std.specs.Prelude.{Err}
use mathlib.Core.Path.{refl, ap}
use borrow.Author.Tests.{not-true, not-false}
use Rattle.compound_find.proofs.FindTurns.{whole_one, whole_absent, whole_text}
use Rattle.compound_find.proofs.judge_whole.Goals as goal

pub returns-then-not-own : goal.returns-then-not-own
returns-then-not-own c = whole_one _ _ _ _ (not-true _ c.if-not-own.true)

pub judge_count-requires : goal.judge_count-requires
judge_count-requires c = let x = rw c.in-Some.is at c.requires in record { low = x.1; high = x.2 }

pub returns-in-None : goal.returns-in-None
returns-in-None c = whole_absent _ _ _ _ (not-false _ c.if-not-own.false) _ refl c.in-None.is _ (ap Err c.of.ensures)

pub returns-in-Some : goal.returns-in-Some
returns-in-Some c = whole_text _ _ _ _ (not-false _ c.if-not-own.false) _ refl _ _ c.in-Some.is _ c.judge_count.ensures
