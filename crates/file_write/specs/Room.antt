-- How much room a file needs (02, T-10). Assumes nothing.
use Rattle.std.specs.Prelude.{◌≡◌, List, ℕ, ◌+◌, ◌*◌, ℤ, Result}
use Rattle.std.proofs.Common.{sym, ◌∙◌}
use Rattle.file_write_spec.specs.declared.Scales.{Scales}
use Rattle.file_write_spec.specs.File.{file_exact, write_file}
use Rattle.file_lay.specs.Answers.{told_file_lem}
use Rattle.terms.specs.declared.Fault.{Fault}
use Rattle.file_write_spec.specs.declared.FileLength.{FileLength}

-- bytes that are enough for any file of N points
abbrev pub enough : ℕ → ℕ
enough n = 15 * n + 297

-- the length of a file and what of it is exact, or the refusal: what writing it into enough room answers
abbrev pub FileMeasured : List ℕ → ℕ → Scales → List ℤ → Result FileLength Fault → Type 0
FileMeasured title n c es r = r ≡ told_file_lem (file_exact c n es) (write_file title n c es (enough n))

pub file_length_unique : (title : List ℕ) (n : ℕ) (c : Scales) (es : List ℤ) {r q : Result FileLength Fault} → FileMeasured title n c es r → FileMeasured title n c es q → r ≡ q
file_length_unique title n c es x y = x ∙ sym y
