-- What a C host is told of a table: the numbers of the answer's struct, in the header's order, and the first of them once more as the result. What is not given is 0. Assumes nothing.
use Rattle.std.specs.Prelude.{◌≡◌, List, [], ◌∷◌, ℕ, ℤ, length, Result, Ok, Err}
use Rattle.terms.specs.Places.{line_of, column_of}
use Rattle.table_spec.specs.Reading.{Answer, refuse, accept, read_table, stored}
use Rattle.host_numbers.specs.Numbers.{refused_of}
use Rattle.terms.specs.declared.Refusal.{Refusal}

-- a table read: refused, place, line, column, points
abbrev pub table_answer : ℕ → List ℕ → Answer → List ℕ
table_answer n s (refuse c a) = c ∷ a ∷ line_of s a ∷ column_of s a ∷ 0 ∷ []
table_answer n s (accept ys) = 0 ∷ 0 ∷ 0 ∷ 0 ∷ n ∷ []

pub record TableTold (f l : ℤ) (n : ℕ) (body : List ℕ) (out out' : List ℤ) (answer : List ℕ) (r : ℕ) : Type 0 where
  pub numbers : answer ≡ table_answer n body (read_table f l n body (length out))
  pub returned : r ≡ refused_of (table_answer n body (read_table f l n body (length out)))
  pub leaves : out' ≡ stored out (read_table f l n body (length out))

-- the same numbers, by cases of what a reader answered
abbrev pub table_numbers : Result ℕ Refusal → List ℕ
table_numbers (Ok n) = 0 ∷ 0 ∷ 0 ∷ 0 ∷ n ∷ []
table_numbers (Err r) = r.number ∷ r.place ∷ r.line ∷ r.column ∷ 0 ∷ []
