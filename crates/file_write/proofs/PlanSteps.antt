-- From the plan of a file to what is told of it: of writing (02, T-04), and of its length (T-10). No place of the code is named here. Assumes nothing.
use mathlib.Core.Path.{◌≡◌, refl, ◌∙◌}
use mathlib.Core.List.{List}
use Prim.Native.Nat.{ℕ}
use native.Mathlib.Omega.{arith}
use lib.IntN.{ℤ}
use lib.ListN.{length}
use Rattle.terms.specs.Refusals.{fault_at}
use Rattle.table_spec.specs.Writing.{Outcome, declined, wrote, fitted, laid}
use Rattle.file_spec.specs.declared.Exactness.{Exactness}
use Rattle.file_write_spec.specs.declared.Scales.{Scales}
use Rattle.file_write_spec.specs.File.{file_exact, write_file}
use Rattle.table_room.proofs.RoomLaws.{fits_most}
use Rattle.file_write_law.proofs.Accepted.{written_most}
use Rattle.file_plan.specs.declared.Plan.{Plan}
use Rattle.file_plan.specs.Stages.{laid_out, body_of, Planning}
use Rattle.file_lay.specs.Answers.{told_file_lem, FileTells}
use Rattle.file_write.specs.Room.{enough, FileMeasured}
use Rattle.std.specs.Prelude.{Result, Err}
use Rattle.terms.specs.declared.Fault.{Fault}
use Rattle.file_write_spec.specs.declared.FileLength.{FileLength}

-- what is refused is told, and nothing is altered
pub tells_refused : {q : Exactness} {x : Outcome} {o : List ℕ} {r : Result FileLength Fault} {k : ℕ} → x ≡ declined k → r ≡ Err (fault_at k 0) → FileTells q x o o r
unfolding laid
tells_refused {q} {x} {o} {r} {k} e h = record { answer = rw (e, h) refl; bytes = rw e refl }

module _ (title : List ℕ) (n : ℕ) (c : Scales) (es : List ℤ) {p : Plan} (g : Planning (write_file title n c es) (file_exact c n es) title es p) where
  abbrev planned : List ℕ
  planned = laid_out title p.numbers (body_of p.first p.last p.numbers.npoints es)

  -- what was laid is what is written,
  pub tells_laid : {o o' : List ℕ} {r : Result FileLength Fault} → FileTells p.exact (fitted (length o) planned) o o' r → FileTells (file_exact c n es) (write_file title n c es (length o)) o o' r
  tells_laid {o} t = record { answer = rw (g.text (length o), ← g.exact) t.answer; bytes = rw (g.text (length o)) t.bytes }

  -- enough room holds it,
  in_enough : write_file title n c es (enough n) ≡ wrote planned
  in_enough =
      let most = written_most title n c es (length planned) planned (g.text (length planned) ∙ fits_most planned (length planned) (omega arith)) in
      g.text (enough n) ∙ fits_most planned (enough n) most

  -- and its length is the one measured
  pub measured_laid : {r : Result FileLength Fault} → r ≡ told_file_lem p.exact (wrote planned) → FileMeasured title n c es r
  measured_laid t = rw (in_enough, ← g.exact) t
