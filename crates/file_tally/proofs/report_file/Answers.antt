-- `file_tally::report_file` meets its contract: a refusal is told as it is, and of an accepted file the account of its ordinates.
use Rattle.std.proofs.lemmas.Result.{err_from_is_err_and}
use Rattle.file_tally.proofs.ReportLaws.{report_refused, table_room, report_read}
use Rattle.file_tally.proofs.report_file.Goals as goal

pub account-requires : goal.account-requires
account-requires c = table_room c.in_ok-table.ensures

pub returns-in_err-table : goal.returns-in_err-table
returns-in_err-table c =
    let p = err_from_is_err_and c.from_residual.result c.from_residual.ensures.1 in rw (p.1, p.2) (report_refused c.in_err-table.ensures)

pub returns : goal.returns
returns c = report_read c.in_ok-table.ensures c.account.ensures
