-- What a C host is told of a file's text: written (02, T-04), or its length only (02, T-10). The numbers of the answer's struct are those of a table's text (`host_text`). Assumes nothing.
use Rattle.std.specs.Prelude.{List, ◌∷◌, ℕ, ◌+◌, ℤ, pos, length, get_or, Result, Ok, Err}
use Rattle.file_write_spec.specs.File.{file_exact, write_file}
use Rattle.file_write_spec.specs.declared.GivenDecimal.{GivenDecimal}
use Rattle.file_write_spec.specs.declared.Scales.{Scales}
use Rattle.file_write.specs.Room.{enough}
use Rattle.host_numbers.specs.Numbers.{flags, no_flags}
use Rattle.host_text.specs.Answers.{OutcomeTold, LengthTold}
use Rattle.terms.specs.declared.Fault.{Fault}
use Rattle.file_write_spec.specs.declared.FileLength.{FileLength}

-- ten numbers as they come are five decimals, each a mantissa and an exponent, in the header's order
abbrev pub given : List ℤ → ℕ → GivenDecimal
given ks i = record { mantissa = get_or ks i (pos 0); exponent = get_or ks (i + 1) (pos 0) }

abbrev pub scales_of : List ℤ → Scales
scales_of ks = record { xfactor = given ks 0; yfactor = given ks 2; firstx = given ks 4; lastx = given ks 6; firsty = given ks 8 }

-- a file written: refused, length, what is exact
abbrev pub FileTextTold : List ℕ → ℕ → List ℤ → List ℤ → List ℕ → List ℕ → List ℕ → ℕ → Type 0
FileTextTold title n ks es text text' answer r = OutcomeTold (flags (file_exact (scales_of ks) n es)) (write_file title n (scales_of ks) es (length text)) text text' answer r

-- a file measured: the numbers that writing it into enough room is told with
abbrev pub FileLengthTold : List ℕ → ℕ → List ℤ → List ℤ → List ℕ → ℕ → Type 0
FileLengthTold title n ks es answer r = LengthTold (flags (file_exact (scales_of ks) n es)) (write_file title n (scales_of ks) es (enough n)) answer r

-- the numbers of what the writer of files answered
abbrev pub file_numbers : Result FileLength Fault → List ℕ
file_numbers (Ok m) = 0 ∷ m.length ∷ flags m.exact
file_numbers (Err f) = f.number ∷ 0 ∷ no_flags
