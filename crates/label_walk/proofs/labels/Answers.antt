-- `label_walk::labels` meets its contract: by the parts' answers.
use Rattle.std.proofs.lemmas.Result.{err_from_is_err_and}
use native.Mathlib.Omega.{arith}
use Rattle.label_walk.proofs.LabelTurns.{labels_long, labels_unopened, labels_fault, labels_ended}
use Rattle.label_walk.proofs.labels.Goals as goal

pub returns-then-file-gt-LONGEST_FILE : goal.returns-then-file-gt-LONGEST_FILE
returns-then-file-gt-LONGEST_FILE c = rw c.of.ensures (labels_long _ c.if-file-gt-LONGEST_FILE.true)

pub overflow_add-title : goal.overflow_add-title
overflow_add-title c = let o = c.in_ok-title.ensures in omega (arith, o.1.high)

pub walk-requires : goal.walk-requires
walk-requires c = let o = c.in_ok-title.ensures in omega (arith, o.1.high)

pub returns-in_err-title : goal.returns-in_err-title
returns-in_err-title c =
    let p = err_from_is_err_and c.from_residual.result c.from_residual.ensures.1 in rw (p.1, p.2)
    (labels_unopened _ c.if-file-gt-LONGEST_FILE.false _ c.in_err-title.ensures)

pub returns-in_err-end : goal.returns-in_err-end
returns-in_err-end c =
    let p = err_from_is_err_and c.from_residual-in_err-end.result c.from_residual-in_err-end.ensures.1 in rw (p.1, p.2)
    (labels_fault _ c.if-file-gt-LONGEST_FILE.false _ _ c.in_ok-title.ensures _ c.in_err-end.ensures)

pub returns : goal.returns
returns c = labels_ended _ c.if-file-gt-LONGEST_FILE.false _ _ c.in_ok-title.ensures _ _ c.in_ok-end.ensures
