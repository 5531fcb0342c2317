-- `file_check::check_part` meets its contract: 25, then what the records say.
-- where the records are gathered
use Rattle.std.specs.Prelude.{Err}
use mathlib.Core.List.{List}
use mathlib.Core.Path.{sym, ◌∙◌, ap}
use Prim.Native.Nat.{ℕ}
use Rattle.file_body.proofs.BodyLaws.{stage_refused, stage_same}
use Rattle.file_check.proofs.StageLaws.{records_lacking, records_all, records_body}
use Rattle.file_check.proofs.check_part.Goals as goal

pub check_records-requires : goal.check_records-requires
check_records-requires c = (rw c.in-Some.is at c.gather.ensures.1, c.requires.1)

pub returns-in-None : goal.returns-in-None
returns-in-None c =
    let file : List ℕ = c.args.file.now in
    let room : ℕ = c.args.room in
    stage_refused (ap Err c.of.ensures) (records_lacking file room _ _ (sym c.gather.ensures.0 ∙ c.in-None.is))

pub returns-in-Some : goal.returns-in-Some
returns-in-Some c =
    let file : List ℕ = c.args.file.now in
    let room : ℕ = c.args.room in
    let said = sym c.gather.ensures.0 ∙ c.in-Some.is in
    stage_same (records_body file room _ _ _ said) (records_all file room _ _ _ said) c.check_records.ensures
