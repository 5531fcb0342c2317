-- The outcome of writing a file is determined: two outcomes that meet the contract on one input are equal (02, T-04). Assumes nothing.
use Rattle.std.specs.Prelude.{◌≡◌, List, ℕ, Result}
use Rattle.std.proofs.Common.{sym, ◌∙◌}
use Rattle.table_spec.specs.Writing.{Outcome}
use Rattle.file_spec.specs.declared.Exactness.{Exactness}
use Rattle.file_lay.specs.Answers.{FileTells}
use Rattle.terms.specs.declared.Fault.{Fault}
use Rattle.file_write_spec.specs.declared.FileLength.{FileLength}

pub outcome_unique : {e : Exactness} {x : Outcome} {out a b : List ℕ} {r q : Result FileLength Fault} → FileTells e x out a r → FileTells e x out b q → (r ≡ q) × (a ≡ b)
outcome_unique x y = (x.answer ∙ sym y.answer, x.bytes ∙ sym y.bytes)
