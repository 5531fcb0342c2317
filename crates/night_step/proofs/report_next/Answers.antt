-- `night_step::report_next` meets its contract: a progress that no walk can have is answered `Strange`, every other by what stands there.
use Rattle.std.specs.Prelude.{Ok}
use mathlib.Core.Path.{sym, ◌∙◌, ap}
use native.Mathlib.Omega.{arith}
use native.Mathlib.Numerals.{add-one}
use Rattle.spool_record.proofs.SpoolLaws.{file_in}
use Rattle.night_totals.proofs.TotalLaws.{wider}
use Rattle.night_report.proofs.WalkLaws.{told_in}
use Rattle.night_step.proofs.StepLaws.{legal_in, next_strange, next_over, next_stopped, next_file}
use Rattle.night_step.proofs.report_next.Goals as goal

pub returns-then-not-walk_legal : goal.returns-then-not-walk_legal
returns-then-not-walk_legal c = next_strange (sym c.walk_legal.ensures ∙ c.if-not-walk_legal.true)

pub overflow_sub-left : goal.overflow_sub-left
overflow_sub-left c = let h = legal_in _ (sym c.walk_legal.ensures ∙ c.if-not-walk_legal.false) in omega (arith, h.0)

pub slice_bounds-report_file-start : goal.slice_bounds-report_file-start
slice_bounds-report_file-start c = (file_in _ _ _ (sym (c.in-Ok-Some.is ∙ ap Ok c.in-Ok-Some.field-0-is) ∙ c.next_record.ensures)).0

pub slice_bounds-report_file-end : goal.slice_bounds-report_file-end
slice_bounds-report_file-end c = (file_in _ _ _ (sym (c.in-Ok-Some.is ∙ ap Ok c.in-Ok-Some.field-0-is) ∙ c.next_record.ensures)).1

pub with_report-requires : goal.with_report-requires
with_report-requires c =
    let h = legal_in _ (sym c.walk_legal.ensures ∙ c.if-not-walk_legal.false) in (wider h.0 h.1, told_in c.report_file-report.ensures)

pub overflow_add-then : goal.overflow_add-then
overflow_add-then c = let h = legal_in _ (sym c.walk_legal.ensures ∙ c.if-not-walk_legal.false) in omega (arith, h.0)

pub returns-in-Ok-None : goal.returns-in-Ok-None
returns-in-Ok-None c = next_over (sym c.walk_legal.ensures ∙ c.if-not-walk_legal.false) (sym (c.in-Ok-None.is ∙ ap Ok c.in-Ok-None.field-0-is) ∙ c.next_record.ensures)

pub returns-in-Err : goal.returns-in-Err
returns-in-Err c = next_stopped (sym c.walk_legal.ensures ∙ c.if-not-walk_legal.false) (sym c.in-Err.is ∙ c.next_record.ensures)

pub returns-in-Ok-Some : goal.returns-in-Ok-Some
returns-in-Ok-Some c =
    rw (add-one _) (next_file (sym c.walk_legal.ensures ∙ c.if-not-walk_legal.false) (sym (c.in-Ok-Some.is ∙ ap Ok c.in-Ok-Some.field-0-is) ∙ c.next_record.ensures) c.report_file-report.ensures
    c.with_report.ensures)

pub slice_bounds-report_file-count : goal.slice_bounds-report_file-count
slice_bounds-report_file-count c = (file_in _ _ _ (sym (c.in-Ok-Some.is ∙ ap Ok c.in-Ok-Some.field-0-is) ∙ c.next_record.ensures)).0
