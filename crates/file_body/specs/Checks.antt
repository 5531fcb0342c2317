-- What checking a file answers, and that the outcome is unique. Assumes nothing.
use Rattle.std.specs.Prelude.{◌≡◌, List, ℕ, ℤ, length, Result, Ok, Err}
use Rattle.std.proofs.Common.{sym, ◌∙◌}
use Rattle.terms.specs.Refusals.{fault_at}
use Rattle.table_spec.specs.Reading.{Answer, read_table, stored}
use Rattle.table_read.specs.Answers.{Accepts}
use Rattle.file_marks.specs.Spans.{Within}
use Rattle.file_spec.specs.Texts.{text_in}
use Rattle.file_spec.specs.File.{FileAnswer, refuse_file, accept_file, stored_file}
use Rattle.label_spec.specs.declared.Span.{Span}
use Rattle.file_tabled.specs.declared.TablePlace.{TablePlace}
use Rattle.terms.specs.declared.Fault.{Fault}

-- what the body of a table says in its frame, with room for so many ordinates
abbrev pub table_at : List ℕ → ℕ → TablePlace → Answer
table_at s room k = read_table k.table.first k.table.last k.table.points (text_in s k.body) room

-- a table that was checked: its body lies within the file and has no fault
pub record Laid (s : List ℕ) (room : ℕ) (k : TablePlace) : Type 0 where
  pub inside : Within (length s) k.body
  pub accepts : Accepts (table_at s room k)

abbrev pub LaidIn : List ℕ → ℕ → Result TablePlace Fault → Type 0
LaidIn s room (Ok k) = Laid s room k
LaidIn s room (Err r) = Unit {0}

abbrev pub left_in : List ℕ → ℕ → List ℤ → Result TablePlace Fault → List ℤ
left_in s room out (Ok k) = stored out (table_at s room k)
left_in s room out (Err r) = out

-- checking, for each case of the answer that the definition gives, where b is the body
abbrev pub tabled : Span → FileAnswer → Result TablePlace Fault
tabled b (refuse_file c a) = Err (fault_at c a)
tabled b (accept_file t ys) = Ok (record { table = t; body = b })

-- a stage of checking, with the answer x that the definition gives it: what storing asks for, and what it will leave
pub record StageChecks (s : List ℕ) (room : ℕ) (b : Span) (x : FileAnswer) (r : Result TablePlace Fault) : Type 0 where
  pub answers : r ≡ tabled b x
  pub laid : LaidIn s room r
  pub leaves : (out : List ℤ) → left_in s room out r ≡ stored_file out x

pub check_unique : {s : List ℕ} {room : ℕ} {b : Span} {x : FileAnswer} {r q : Result TablePlace Fault} → StageChecks s room b x r → StageChecks s room b x q → r ≡ q
check_unique x y = x.answers ∙ sym y.answers
