-- What the tests before writing answer. Assumes nothing.
use Rattle.std.specs.Prelude.{◌≡◌, List, ℕ, ◌≤◌, ℤ, length, Some, Result, Ok, Err}
use Rattle.table_spec.specs.declared.Style.{Style}
use Rattle.table_spec.specs.Writing.{declined, write_table}
use Rattle.frame.specs.Legal.{framed}
use Rattle.terms.specs.declared.Reason.{Reason}
use Rattle.frame.specs.declared.Frame.{Frame}
use Rattle.terms.specs.Refusals.{reason_number}

-- the tests before writing: a legal frame and an ordinate for each point, or the number that is refused with in every form and room
abbrev pub Checks : ℤ → ℤ → ℕ → List ℤ → Result Frame Reason → Type 0
Checks f l n ys (Ok fr) = (framed f l n ≡ Some fr) × (n ≤ length ys)
Checks f l n ys (Err x) = (st : Style) (space : ℕ) → write_table st f l n ys space ≡ declined (reason_number x)
