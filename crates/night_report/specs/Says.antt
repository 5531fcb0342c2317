-- The public contract of the whole walk, and that its outcome is unique. Assumes nothing.
use Rattle.std.specs.Prelude.{◌≡◌, List, ℕ, ℤ, length}
use Rattle.std.proofs.Common.{sym, ◌∙◌}
use Rattle.night_spec.specs.Spool.{spool_of, files_of}
use Rattle.night_spec.specs.Night.{left_by, night_of}
use Rattle.night_spec.specs.declared.Night.{Night}

-- the whole walk: the spool, the lent slice before and after, and the end of the report
pub record NightSays (s : List ℕ) (out out' : List ℤ) (r : Night) : Type 0 where
  pub answers : r ≡ night_of (length out) s
  pub left : out' ≡ left_by out (files_of (spool_of s))

pub night_unique : {s : List ℕ} {out a b : List ℤ} {r q : Night} → NightSays s out a r → NightSays s out b q → (r ≡ q) × (a ≡ b)
night_unique x y = (x.answers ∙ sym y.answers, x.left ∙ sym y.left)
