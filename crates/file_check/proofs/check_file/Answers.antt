-- `file_check::check_file` meets its contract: the labels, then what stands between them.
-- where the labels are read
use Rattle.std.proofs.lemmas.Result.{err_from_is_err_and}
use mathlib.Core.List.{List}
use mathlib.Core.Path.{refl, sym}
use Prim.Native.Nat.{ℕ}
use native.Mathlib.Omega.{arith}
use Rattle.file_body.proofs.BodyLaws.{stage_refused, stage_same}
use Rattle.file_check.proofs.StageLaws.{labels_refused, labels_placed, labels_body, labelled_short}
use Rattle.file_check.proofs.check_file.Goals as goal

pub overflow_add-places : goal.overflow_add-places
overflow_add-places c = let x = c.in_ok-places.ensures.1 in let h = x.0.high in omega arith

pub check_part-requires : goal.check_part-requires
check_part-requires c =
    let file : List ℕ = c.args.file.now in
    let x = c.in_ok-places.ensures.1 in
    let h = x.0.high in
    (omega arith, labelled_short file _ _ _ (sym c.in_ok-places.ensures.0))

pub returns-in_err-places : goal.returns-in_err-places
returns-in_err-places c =
    let file : List ℕ = c.args.file.now in
    let room : ℕ = c.args.room in
    let p = err_from_is_err_and c.from_residual.result c.from_residual.ensures.1 in rw (p.1, p.2)
    (stage_refused refl (labels_refused file room _ (sym c.in_err-places.ensures.0)))

pub returns : goal.returns
returns c =
    let file : List ℕ = c.args.file.now in
    let room : ℕ = c.args.room in
    let said = sym c.in_ok-places.ensures.0 in
    stage_same (labels_body file room _ _ _ said) (labels_placed file room _ _ _ said) c.check_part.ensures
