-- What a C host is told of a file and of a record: the numbers of the answer's struct, in the header's order, and the first of them once more as the result. What is not given is 0. Assumes nothing.
use Rattle.std.specs.Prelude.{◌≡◌, List, ◌∷◌, ℕ, ℤ, length}
use Rattle.terms.specs.Places.{line_of, column_of}
use Rattle.label_spec.specs.Records.{record_for}
use Rattle.label_spec.specs.Names.{norm}
use Rattle.file_spec.specs.File.{FileAnswer, refuse_file, accept_file, read_file, stored_file}
use Rattle.host_numbers.specs.Numbers.{refused_of, flags, no_flags, bits}
use Rattle.host_read.specs.Answers.{record_numbers}

-- a file read: refused, place, line, column, points, first, last, what is exact
abbrev pub file_answer : List ℕ → FileAnswer → List ℕ
file_answer s (refuse_file c a) = c ∷ a ∷ line_of s a ∷ column_of s a ∷ 0 ∷ 0 ∷ 0 ∷ no_flags
file_answer s (accept_file t ys) = 0 ∷ 0 ∷ 0 ∷ 0 ∷ t.points ∷ bits t.first ∷ bits t.last ∷ flags t.exact

pub record FileTold (file : List ℕ) (out out' : List ℤ) (answer : List ℕ) (r : ℕ) : Type 0 where
  pub numbers : answer ≡ file_answer file (read_file file (length out))
  pub returned : r ≡ refused_of (file_answer file (read_file file (length out)))
  pub leaves : out' ≡ stored_file out (read_file file (length out))

-- a record found
pub record RecordTold (file name : List ℕ) (answer : List ℕ) (r : ℕ) : Type 0 where
  pub numbers : answer ≡ record_numbers (record_for file (norm name))
  pub returned : r ≡ refused_of (record_numbers (record_for file (norm name)))
