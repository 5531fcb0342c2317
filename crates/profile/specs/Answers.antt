-- The public contract of reading a profile, and that its outcome is unique. Assumes nothing.
use Rattle.std.specs.Prelude.{◌≡◌, List, ℕ, ℤ, length, Result}
use Rattle.std.proofs.Common.{sym, ◌∙◌}
use Rattle.file_spec.specs.File.{stored_file}
use Rattle.profile_spec.specs.Profile.{read_profile, as_file, told_profile, stored_shown}
use Rattle.profile_spec.specs.declared.PageRefusal.{PageRefusal}
use Rattle.file_spec.specs.declared.FileTable.{FileTable}

-- the public contract: the file, the page, the ordinates and the numbers before and after, and the answer
pub record ProfileSays (file page : List ℕ) (out out' : List ℤ) (shown shown' : List ℕ) (r : Result FileTable PageRefusal) : Type 0 where
  pub answers : r ≡ told_profile file page (read_profile file page (length out))
  pub leaves : out' ≡ stored_file out (as_file (read_profile file page (length out)))
  pub shows : shown' ≡ stored_shown shown (read_profile file page (length out))

pub outcome_unique : (file page : List ℕ) {out a b : List ℤ} {shown c d : List ℕ} {r q : Result FileTable PageRefusal}
    → ProfileSays file page out a shown c r → ProfileSays file page out b shown d q → (r ≡ q) × (a ≡ b) × (c ≡ d)
outcome_unique file page x y = (x.answers ∙ sym y.answers, x.leaves ∙ sym y.leaves, x.shows ∙ sym y.shows)
