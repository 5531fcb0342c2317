-- The lent slice after a file that was written is read again. Assumes nothing.
use Rattle.std.specs.Prelude.{◌≡◌, List, ◌++◌, ℕ, ◌≤◌, ℤ, length, take, drop}
use Rattle.table_spec.specs.Reading.{stored}
use Rattle.table_spec.specs.Writing.{wrote}
use Rattle.table_spec.specs.declared.Style.TheVariants.{Difdup}
use Rattle.table_write_law.proofs.ReadBack.{Entries, reads_back, gives_back}
use Rattle.file_spec.specs.File.{read_file, stored_file}
use Rattle.file_write_spec.specs.declared.Scales.{Scales}
use Rattle.file_write_spec.specs.File.{first_of, last_of}
use Rattle.file_write_spec.specs.File.{write_file}
use Rattle.file_write_law.proofs.Accepted.{body, body_wrote, went, accepts_written}

module _ (title : List ℕ) (n : ℕ) (c : Scales) (es : List ℤ) (space : ℕ) (s : List ℕ) (w : write_file title n c es space ≡ wrote s) (h : Entries es) where
  abbrev text : List ℕ
  text = body title n c es

  -- the slice then holds the entries that were written, and its others as they were
  pub gives_back_file : (out : List ℤ) → n ≤ length out → stored_file out (read_file s (length out)) ≡ take n es ++ drop n out
  unfolding stored
  gives_back_file out r =
      let k = body_wrote title n c es (went title n c es space s w).0 in
      let b = reads_back Difdup (first_of c n) (last_of c n) n es (length text) text h k (length out) r in
      rw (accepts_written title n c es space s w h (length out) r) (rw b at (gives_back Difdup (first_of c n) (last_of c n) n es (length text) text h k out r))
