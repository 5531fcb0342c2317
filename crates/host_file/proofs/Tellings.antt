-- From the answers of the reader and of the search to what a C host is told. No place of the code is named here. Assumes nothing.
use mathlib.Core.Path.{◌≡◌, refl, ap, ◌∙◌}
use mathlib.Core.List.{List}
use Prim.Native.Nat.{ℕ}
use lib.IntN.{ℤ}
use lib.ListN.{length}
use Rattle.label_spec.specs.Records.{record_for}
use Rattle.label_spec.specs.Names.{norm}
use Rattle.file_spec.specs.File.{FileAnswer, refuse_file, accept_file, read_file, told_file}
use Rattle.file.specs.Answers.{FileSays}
use Rattle.host_numbers.specs.Numbers.{Told}
use Rattle.host_numbers.specs.NumberLaws.{told_as}
use Rattle.host_read.specs.Answers.{file_numbers, record_numbers}
use Rattle.host_file.specs.Answers.{file_answer, FileTold, RecordTold}
use Rattle.std.specs.Prelude.{Option, Result}
use Rattle.label_spec.specs.declared.Span.{Span}
use Rattle.terms.specs.declared.Refusal.{Refusal}
use Rattle.file_spec.specs.declared.FileTable.{FileTable}

-- the numbers of an answer are those of what it is told as
file_numbers_lem : (s : List ℕ) (x : FileAnswer) → file_numbers (told_file s x) ≡ file_answer s x
file_numbers_lem s (refuse_file c a) = refl
file_numbers_lem s (accept_file t ys) = refl

-- so that a host is told
pub told_file_lem : {file : List ℕ} {out out' : List ℤ} {x : Result FileTable Refusal} {ns : List ℕ} {r : ℕ} → FileSays file out out' x → Told (file_numbers x) ns r → FileTold file out out' ns r
told_file_lem {file} {out} g t =
    let z = told_as (ap file_numbers g.answers ∙ file_numbers_lem file (read_file file (length out))) t in
    record { numbers = z.numbers; returned = z.returned; leaves = g.leaves }

pub told_record : {file name ns : List ℕ} {x : Result (Option Span) Refusal} {r : ℕ} → x ≡ record_for file (norm name) → Told (record_numbers x) ns r → RecordTold file name ns r
told_record e t = let z = told_as (ap record_numbers e) t in record { numbers = z.numbers; returned = z.returned }
