-- From what was checked to what reading a file answers. No place of the code is named here. Assumes nothing.
use mathlib.Core.Path.{◌≡◌, refl, sym, ap, ◌∙◌}
use mathlib.Core.List.{List}
use Prim.Native.Nat.{ℕ}
use lib.IntN.{ℤ}
use lib.ListN.{length}
use Rattle.terms.specs.Logic.{zero_one}
use Rattle.terms.specs.Refusals.{fault_at, refusal_in}
use Rattle.terms.specs.declared.Refusal.{Refusal}
use Rattle.terms.specs.declared.Fault.{Fault}
use Rattle.label_spec.specs.declared.Span.{Span}
use Rattle.file_spec.specs.declared.FileTable.{FileTable}
use Rattle.file_spec.specs.File.{FileAnswer, refuse_file, accept_file, staged, told_file, read_file}
use Rattle.file.specs.Answers.{staged_by, left_by, StageSays, FileSays}
use Rattle.file_body.specs.Checks.{tabled, StageChecks}
use Rattle.std.specs.Prelude.{Result, Ok, Err}
use Rattle.file_tabled.specs.declared.TablePlace.{TablePlace}

-- ---- what was checked, stored

staged_by_lem : (b : Span) (x : FileAnswer) → staged_by (tabled b x) ≡ staged x
staged_by_lem b (refuse_file c a) = refl
staged_by_lem b (accept_file t ys) = refl

pub stage_settled : {s : List ℕ} {b : Span} {x : FileAnswer} {out out' : List ℤ} {c : Result TablePlace Fault} {r : Result FileTable Fault}
    → StageChecks s (length out) b x c → (r ≡ staged_by c) × (out' ≡ left_by s out c) → StageSays x out out' r
stage_settled {s} {b} {x} {out} g h = record { answers = h.0 ∙ ap staged_by g.answers ∙ staged_by_lem b x; leaves = h.1 ∙ g.leaves out }

-- ---- the public answer

told_table : (s : List ℕ) (x : FileAnswer) {t : FileTable} → Ok t ≡ staged x → Ok t ≡ told_file s x
told_table s (refuse_file c a) e = zero_one cc
told_table s (accept_file t ys) e = cc

told_fault : (s : List ℕ) (x : FileAnswer) {r : Fault} {q : Refusal} → Err r ≡ staged x → q ≡ refusal_in s r.number r.place → Err q ≡ told_file s x
told_fault s (refuse_file c a) {r} e h = let z : r ≡ fault_at c a = cc in rw (h, z) refl
told_fault s (accept_file t ys) e h = zero_one cc

module _ {s : List ℕ} {out out' : List ℤ} where
  pub file_table : {r : Result FileTable Fault} {t : FileTable} → r ≡ Ok t → StageSays (read_file s (length out)) out out' r → FileSays s out out' (Ok t)
  file_table e g = record { answers = told_table s (read_file s (length out)) (sym e ∙ g.answers); leaves = g.leaves }

  pub file_fault : {r : Result FileTable Fault} {f : Fault} {q : Refusal} → r ≡ Err f → q ≡ refusal_in s f.number f.place → StageSays (read_file s (length out)) out out' r
      → FileSays s out out' (Err q)
  file_fault e h g = record { answers = told_fault s (read_file s (length out)) (sym e ∙ g.answers) h; leaves = g.leaves }
