-- The public contract of reading a data block where it stands, and that its outcome is unique. Assumes nothing.
use Rattle.std.specs.Prelude.{◌≡◌, List, ℕ, ℤ, length, Option, Result}
use Rattle.std.proofs.Common.{sym, ◌∙◌}
use Rattle.compound_spec.specs.Answers.{read_block, told_block, stored_block}
use Rattle.terms.specs.declared.Refusal.{Refusal}
use Rattle.file_spec.specs.declared.FileTable.{FileTable}

-- the file, the block's places, the slice before and after, and the answer
pub record ReadsBlock (file : List ℕ) (start end : ℕ) (out out' : List ℤ) (r : Option (Result FileTable Refusal)) : Type 0 where
  pub answers : r ≡ told_block file (read_block file (length out) start end)
  pub leaves : out' ≡ stored_block out (read_block file (length out) start end)

pub outcome_unique : (file : List ℕ) (start end : ℕ) {out a b : List ℤ} {r q : Option (Result FileTable Refusal)} → ReadsBlock file start end out a r → ReadsBlock file start end out b q → (r ≡ q) × (a ≡ b)
outcome_unique file start end x y = (x.answers ∙ sym y.answers, x.leaves ∙ sym y.leaves)
