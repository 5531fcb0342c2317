-- `compound_find::find_blocks` meets its contract: the survey, the whole, then what is stored.
use native.Mathlib.Omega.{arith}
use Rattle.compound_find.proofs.FindTurns.{found_refused, found_fault, found_whole}
use Rattle.compound_find.proofs.find_blocks.Goals as goal

pub judge_whole-requires : goal.judge_whole-requires
judge_whole-requires c = let x = rw c.in-Ok.is at c.survey.ensures in x.places.3

pub store_fitting-requires : goal.store_fitting-requires
store_fitting-requires c =
    let x = rw c.in-Ok.is at c.survey.ensures in
    let p = x.places in
    omega (arith, p.0, p.1, p.2)

pub returns-in-Err : goal.returns-in-Err
returns-in-Err c = found_refused _ _ _ (rw c.in-Err.is at c.survey.ensures) _ c.refusal_in.ensures

pub returns-in-Err-judge_whole : goal.returns-in-Err-judge_whole
returns-in-Err-judge_whole c =
    found_fault _ _ _ _ _ (rw c.in-Ok.is at c.survey.ensures) _ (rw c.in-Err-judge_whole.is at c.judge_whole.ensures)
    _ c.refusal_in-in-Err-judge_whole.ensures

pub returns-in-Ok-judge_whole : goal.returns-in-Ok-judge_whole
returns-in-Ok-judge_whole c =
    found_whole _ _ _ _ _ (rw c.in-Ok.is at c.survey.ensures) _ (rw c.in-Ok-judge_whole.is at c.judge_whole.ensures) _ c.store_fitting.ensures
