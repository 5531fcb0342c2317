-- T-13 in the terms of the public functions: what the reader answers to a converted file is what it answered to the file before, line and column too. Assumes nothing.
use Rattle.std.specs.Prelude.{◌≡◌, Bool, List, ℕ, ℤ, length, Result}
use Rattle.std.proofs.Common.{ap, ◌∙◌}
use Rattle.file_spec.specs.File.{read_file, told_file, stored_file}
use Rattle.file_spec.specs.Tabs.{read_file_before}
use Rattle.file_tabs.specs.Files.{converted_file, told_as_before, length_detabbed}
use Rattle.file.specs.Answers.{FileSays}
use Rattle.file_detab.specs.Answers.{FileDetabs}
use Rattle.terms.specs.declared.Refusal.{Refusal}
use Rattle.file_spec.specs.declared.FileTable.{FileTable}

-- "its output reads as the old reader read the input, numbers and places equal": the file as `detab_file` leaves it, given to the reader of this release
pub reads_as_before : (file file' : List ℕ) (found : Bool) → FileDetabs file file' found → (out out' : List ℤ) (r : Result FileTable Refusal) → FileSays file' out out' r
    → (r ≡ told_file file (read_file_before file (length out))) × (out' ≡ stored_file out (read_file_before file (length out)))
reads_as_before file file' found made out out' r says =
    let e = ap (λ (l : List ℕ). read_file l (length out)) made.leaves ∙ converted_file file (length out) in (
      says.answers ∙ ap (λ (l : List ℕ). told_file l (read_file file' (length out))) made.leaves ∙ told_as_before file (read_file file' (length out)) ∙ ap (told_file file) e,
      says.leaves ∙ ap (stored_file out) e,
    )

-- "and the length"
pub same_length : (file file' : List ℕ) (found : Bool) → FileDetabs file file' found → length file' ≡ length file
same_length file file' found made = ap length made.leaves ∙ length_detabbed file
