-- From the answers of the writer of files to what a C host is told. No place of the code is named here. Assumes nothing.
use mathlib.Core.Path.{◌≡◌, refl, ap, ◌∙◌}
use mathlib.Core.List.{List, [], ◌∷◌}
use Prim.Native.Nat.{ℕ}
use lib.ListN.{get_or}
use Rattle.terms.specs.declared.Fault.{Fault}
use Rattle.table_spec.specs.Writing.{Outcome, declined, wrote}
use Rattle.file_spec.specs.declared.Exactness.{Exactness}
use Rattle.file_write_spec.specs.declared.FileLength.{FileLength}
use Rattle.file_lay.specs.Answers as file-writing
use Rattle.host_numbers.specs.Numbers.{refused_of, flags, no_flags, Told}
use Rattle.host_text.specs.Answers.{text_answer, OutcomeTold, LengthTold}
use Rattle.host_file_text.specs.Answers.{file_numbers}
use Rattle.std.specs.Prelude.{Result, Ok, Err}

-- ---- what the function tells

pub tells_file : {w : Result FileLength Fault} {m : FileLength} {ks : List ℕ} → w ≡ Ok m → ks ≡ flags m.exact
    → Told (file_numbers w) (0 ∷ m.length ∷ get_or ks 0 0 ∷ get_or ks 1 0 ∷ get_or ks 2 0 ∷ []) 0
tells_file e a = rw (e, a) (record { numbers = refl; returned = refl })

pub tells_file_refusal : {w : Result FileLength Fault} {f : Fault} → w ≡ Err f → Told (file_numbers w) (f.number ∷ 0 ∷ no_flags) f.number
tells_file_refusal e = rw e (record { numbers = refl; returned = refl })

-- ---- so that a host is told of an outcome

file_numbers_lem : (q : Exactness) (x : Outcome) → file_numbers (file-writing.told_file_lem q x) ≡ text_answer (flags q) x
file_numbers_lem q (declined c) = refl
file_numbers_lem q (wrote t) = refl

module _ (x : Outcome) {answer : List ℕ} {r : ℕ} where
  pub file_measured : (q : Exactness) {w : Result FileLength Fault} → w ≡ file-writing.told_file_lem q x → Told (file_numbers w) answer r → LengthTold (flags q) x answer r
  file_measured q e g =
      let z = ap file_numbers e ∙ file_numbers_lem q x in
      record { numbers = g.numbers ∙ z; returned = g.returned ∙ ap refused_of z }

  pub file_told : {q : Exactness} {w : Result FileLength Fault} {o o' : List ℕ} → file-writing.FileTells q x o o' w → Told (file_numbers w) answer r → OutcomeTold (flags q) x o o' answer r
  file_told {q} t g = let z = file_measured q t.answer g in record { numbers = z.numbers; returned = z.returned; leaves = t.bytes }
