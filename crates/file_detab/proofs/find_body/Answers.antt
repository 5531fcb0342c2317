-- `file_detab::find_body` meets its contract: the labels, the records, then the list.
-- where the labels are read, and from where the records are gathered
use mathlib.Core.List.{List}
use mathlib.Core.Path.{sym, ◌∙◌}
use Prim.Native.Nat.{ℕ}
use native.Mathlib.Omega.{arith}
use Rattle.file_detab.proofs.Bodies.{labels_refused, records_lacking, records_all}
use Rattle.file_detab.proofs.find_body.Goals as goal

pub overflow_add-start : goal.overflow_add-start
overflow_add-start c = let x = rw c.in-Ok.is at c.labels.ensures.1 in let h = x.0.high in omega arith

pub gather-requires : goal.gather-requires
gather-requires c = let x = rw c.in-Ok.is at c.labels.ensures.1 in let h = x.0.high in omega arith

pub body_at-requires : goal.body_at-requires
body_at-requires c = c.in_ok-x-in-Ok.ensures.1

pub returns-in-Err : goal.returns-in-Err
returns-in-Err c =
    let file : List ℕ = c.args.file.now in
    (labels_refused file _ (sym c.labels.ensures.0 ∙ c.in-Err.is), tt)

pub returns-in_err-x-in-Ok : goal.returns-in_err-x-in-Ok
returns-in_err-x-in-Ok c =
    let file : List ℕ = c.args.file.now in
    rw c.from_residual.ensures (records_lacking file _ _ _ (sym c.labels.ensures.0 ∙ c.in-Ok.is) (sym c.in_err-x-in-Ok.ensures.0), tt)

pub returns-in_ok-x-in-Ok : goal.returns-in_ok-x-in-Ok
returns-in_ok-x-in-Ok c =
    let file : List ℕ = c.args.file.now in
    let found = records_all file _ _ _ (sym c.labels.ensures.0 ∙ c.in-Ok.is) _ (sym c.in_ok-x-in-Ok.ensures.0) in
    (c.body_at.ensures.0 ∙ found, c.body_at.ensures.1)
