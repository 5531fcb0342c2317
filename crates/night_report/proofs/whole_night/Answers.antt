-- `night_report::whole_night` meets its contract: at each turn the totals so far and the rest of the spool come to what the whole spool comes to.
use Rattle.std.specs.Prelude.{Ok}
use mathlib.Core.Path.{sym, ◌∙◌, ap}
use native.Mathlib.Omega.{arith}
use Rattle.spool_record.proofs.SpoolLaws.{file_in}
use Rattle.night_totals.proofs.TotalLaws.{wider}
use Rattle.night_report.proofs.WalkLaws.{walked_start, told_in, walked_file, walked_over, walked_stopped}
use Rattle.night_report.proofs.whole_night.Goals as goal

pub loop-from-init : goal.loop-from-init
loop-from-init c = walked_start _ _

pub returns-in-Ok-None : goal.returns-in-Ok-None
returns-in-Ok-None c = walked_over c.loop-from.invariant (sym (c.in-Ok-None.is ∙ ap Ok c.in-Ok-None.field-0-is) ∙ c.next_record.ensures)

pub returns-in-Err : goal.returns-in-Err
returns-in-Err c = walked_stopped c.loop-from.invariant (sym c.in-Err.is ∙ c.next_record.ensures)

pub slice_bounds-report_file-count : goal.slice_bounds-report_file-count
slice_bounds-report_file-count c = (file_in _ _ _ (sym (c.in-Ok-Some.is ∙ ap Ok c.in-Ok-Some.field-0-is) ∙ c.next_record.ensures)).0

pub with_report-totals-requires : goal.with_report-totals-requires
with_report-totals-requires c =
    (wider (omega arith) c.loop-from.invariant.bounds, told_in c.report_file-report.ensures)

pub overflow_sub-left : goal.overflow_sub-left
overflow_sub-left c =
    (file_in _ _ _ (sym (c.in-Ok-Some.is ∙ ap Ok c.in-Ok-Some.field-0-is) ∙ c.next_record.ensures)).2

pub loop-from-smaller : goal.loop-from-smaller
loop-from-smaller c =
    let z = file_in _ _ _ (sym (c.in-Ok-Some.is ∙ ap Ok c.in-Ok-Some.field-0-is) ∙ c.next_record.ensures) in omega (arith, z.2)

pub loop-from-preserved : goal.loop-from-preserved
loop-from-preserved c =
    rw c.with_report-totals.ensures (walked_file c.loop-from.invariant (sym (c.in-Ok-Some.is ∙ ap Ok c.in-Ok-Some.field-0-is) ∙ c.next_record.ensures) c.report_file-report.ensures)

pub slice_bounds-report_file-start : goal.slice_bounds-report_file-start
slice_bounds-report_file-start c = (file_in _ _ _ (sym (c.in-Ok-Some.is ∙ ap Ok c.in-Ok-Some.field-0-is) ∙ c.next_record.ensures)).0

pub slice_bounds-report_file-end : goal.slice_bounds-report_file-end
slice_bounds-report_file-end c = (file_in _ _ _ (sym (c.in-Ok-Some.is ∙ ap Ok c.in-Ok-Some.field-0-is) ∙ c.next_record.ensures)).1
