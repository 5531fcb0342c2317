-- `file_check::check_records` meets its contract: 26 and 27, then what the numbers say.
-- where the numbers are read
use Rattle.std.specs.Prelude.{Err}
use mathlib.Core.List.{List}
use mathlib.Core.Path.{sym, ◌∙◌, ap}
use Prim.Native.Nat.{ℕ}
use Rattle.file_spec.specs.Figures.{figures_of}
use Rattle.file_spec.specs.declared.Needed.{Needed}
use Rattle.file_body.proofs.BodyLaws.{stage_refused, stage_same}
use Rattle.file_check.proofs.StageLaws.{figures_wrong, list_wrong, list_right, list_body}
use Rattle.file_check.proofs.check_records.Goals as goal

pub check_abscissas-requires : goal.check_abscissas-requires
check_abscissas-requires c =
    let p = c.requires in
    let small = rw c.in-Ok.is at c.figures.ensures.1 in
    let inside = rw c.in-Some.is at c.list_in.ensures.1 in
    (p.0, small, inside, p.1)

pub returns-in-Err : goal.returns-in-Err
returns-in-Err c =
    let file : List ℕ = c.args.file.now in
    let room : ℕ = c.args.room in
    let records : Needed = c.args.x in
    let said = sym c.figures.ensures.0 ∙ c.in-Err.is in
    stage_refused (ap Err c.of.ensures) (figures_wrong file room records (figures_of file records) _ said)

pub returns-in-None : goal.returns-in-None
returns-in-None c =
    let file : List ℕ = c.args.file.now in
    let room : ℕ = c.args.room in
    let records : Needed = c.args.x in
    let said = sym c.figures.ensures.0 ∙ c.in-Ok.is in
    let list = sym c.list_in.ensures.0 ∙ c.in-None.is in
    stage_refused (ap Err c.of-in-None.ensures) (rw c.mark_in.ensures (list_wrong file room records (figures_of file records) _ said list))

pub returns-in-Some : goal.returns-in-Some
returns-in-Some c =
    let file : List ℕ = c.args.file.now in
    let room : ℕ = c.args.room in
    let records : Needed = c.args.x in
    let said = sym c.figures.ensures.0 ∙ c.in-Ok.is in
    let list = sym c.list_in.ensures.0 ∙ c.in-Some.is in
    stage_same (list_body file room records _ list) (list_right file room records (figures_of file records) _ _ said list) c.check_abscissas.ensures
