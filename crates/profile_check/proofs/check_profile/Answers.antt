-- `profile_check::check_profile` meets its contract: the labels, the table, then the fifteen records.
use mathlib.Core.Path.{sym, ◌∙◌}
use native.Mathlib.Omega.{arith}
use Rattle.file_check.proofs.StageLaws.{labelled_short}
use Rattle.profile_check.proofs.CheckTurns.{check_labels, check_fault, check_records}
use Rattle.profile_check.proofs.check_profile.Goals as goal

pub overflow_add-start : goal.overflow_add-start
overflow_add-start c = let x = rw c.in-Ok.is at c.labels.ensures.1 in let h = x.0.high in omega arith

pub check_part-requires : goal.check_part-requires
check_part-requires c =
    let x = rw c.in-Ok.is at c.labels.ensures.1 in
    let h = x.0.high in
    (omega arith, labelled_short c.args.file.now _ _ _ (sym c.labels.ensures.0 ∙ c.in-Ok.is))

pub check_records-requires : goal.check_records-requires
check_records-requires c =
    let x = rw c.in-Ok.is at c.labels.ensures.1 in
    let h = x.0.high in
    (omega arith, c.requires)

pub returns-in-Err : goal.returns-in-Err
returns-in-Err c = check_labels _ _ _ _ _ (sym c.labels.ensures.0 ∙ c.in-Err.is)

pub returns-in-Err-check_part : goal.returns-in-Err-check_part
returns-in-Err-check_part c =
    check_fault _ _ _ _ _ _ _ (sym c.labels.ensures.0 ∙ c.in-Ok.is) _ _ (rw c.in-Err-check_part.is at c.check_part.ensures)

pub returns-in-Ok-check_part : goal.returns-in-Ok-check_part
returns-in-Ok-check_part c =
    check_records _ _ _ _ _ _ _ (sym c.labels.ensures.0 ∙ c.in-Ok.is) _ _ (rw c.in-Ok-check_part.is at c.check_part.ensures) _ c.check_records.ensures
