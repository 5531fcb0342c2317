-- What writing a file ensures (02, T-04). Assumes nothing.
use Rattle.std.specs.Prelude.{◌≡◌, List, ℕ, length, Result, Ok, Err}
use Rattle.terms.specs.Refusals.{fault_at}
use Rattle.table_spec.specs.Writing.{Outcome, declined, wrote, laid}
use Rattle.file_spec.specs.declared.Exactness.{Exactness}
use Rattle.terms.specs.declared.Fault.{Fault}
use Rattle.file_write_spec.specs.declared.FileLength.{FileLength}

-- the answer for each case of the outcome, where this is exact; a refusal stands at place 0, and says nothing else
abbrev pub told_file_lem : Exactness → Outcome → Result FileLength Fault
told_file_lem e (declined k) = Err (fault_at k 0)
told_file_lem e (wrote t) = Ok (record { length = length t; exact = e })

-- what writing a file ensures: its answer, and every entry of the lent bytes afterwards
pub record FileTells (e : Exactness) (x : Outcome) (out₀ out : List ℕ) (r : Result FileLength Fault) : Type 0 where
  pub answer : r ≡ told_file_lem e x
  pub bytes : out ≡ laid out₀ x
