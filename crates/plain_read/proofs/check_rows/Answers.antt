-- `plain_read::check_rows` meets its contract: with room for one ordinate, the rows answer and leave the first.
use Rattle.std.proofs.lemmas.Result.{err_from_is_err_and}
use borrow.Author.Rules.{sfits_of}
use mir.Syntax.{w32}
use mir.Facts.{to_z-of_z}
use Rattle.table_read.proofs.AnswerLaws.{check_refused, check_first}
use Rattle.plain_read.proofs.check_rows.Goals as goal

pub returns-in_err-rows : goal.returns-in_err-rows
returns-in_err-rows c =
    let p = err_from_is_err_and c.from_residual.result c.from_residual.ensures.1 in rw (p.1, p.2) (check_refused _ _ c.in_err-rows.ensures)

pub returns : goal.returns
returns c =
    rw (to_z-of_z (sfits_of {w = w32} c.result-1.given)) (check_first c.requires.some c.in_ok-rows.ensures)
