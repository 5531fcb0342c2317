-- `compound_survey::survey` meets its contract: 19, 21, then the walk over the outermost block.
use Rattle.std.proofs.lemmas.Result.{err_from_is_err_and}
use native.Mathlib.Omega.{arith}
use Rattle.compound_survey.specs.Told.{told_long, told_title, told_fault, told_end}
use Rattle.compound_survey.proofs.survey.Goals as goal

pub returns-then-file-gt-LONGEST_FILE : goal.returns-then-file-gt-LONGEST_FILE
returns-then-file-gt-LONGEST_FILE c = rw c.of.ensures (told_long _ c.if-file-gt-LONGEST_FILE.true)

pub walk_block-requires : goal.walk_block-requires
walk_block-requires c = let o = c.in_ok-title.ensures.1 in (o.high, omega arith)

pub count_more-requires : goal.count_more-requires
count_more-requires c =
    let w = c.in_ok-closing.ensures in
    let k = c.well_formed in
    omega (arith, k, w.few, w.mid, w.high)

pub returns-in_err-title : goal.returns-in_err-title
returns-in_err-title c =
    let p = err_from_is_err_and c.from_residual.result c.from_residual.ensures.1 in rw (p.1, p.2)
    (told_title _ (omega (arith, c.if-file-gt-LONGEST_FILE.false)) _ c.in_err-title.ensures.0)

pub returns-in_err-closing : goal.returns-in_err-closing
returns-in_err-closing c =
    let p = err_from_is_err_and c.from_residual-in_err-closing.result c.from_residual-in_err-closing.ensures.1 in rw (p.1, p.2)
    (told_fault _ (omega (arith, c.if-file-gt-LONGEST_FILE.false)) _ _ c.in_ok-title.ensures.0 _ c.in_err-closing.ensures)

pub returns : goal.returns
returns c =
    told_end _ (omega (arith, c.if-file-gt-LONGEST_FILE.false)) _ _ c.in_ok-title.ensures.0 _ _ _ _ _ c.count_more.ensures c.in_ok-closing.ensures
