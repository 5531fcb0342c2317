-- The public contract of a step of the walk, and that its outcome is unique. Assumes nothing.
use Rattle.std.specs.Prelude.{◌≡◌, List, ℕ, ℤ, length}
use Rattle.std.proofs.Common.{sym, ◌∙◌}
use Rattle.night_spec.specs.Steps.{answer_of, step_leaves}
use Rattle.night_spec.specs.declared.Progress.{Progress}
use Rattle.night_spec.specs.declared.Reported.{Reported}

-- a step of the walk: the spool, how far it has come, the lent slice before and after, and what the step answers
pub record NextSays (s : List ℕ) (p : Progress) (out out' : List ℤ) (r : Reported) : Type 0 where
  pub answers : r ≡ answer_of (length out) s p
  pub left : out' ≡ step_leaves out s p

pub next_unique : {s : List ℕ} {p : Progress} {out a b : List ℤ} {r q : Reported} → NextSays s p out a r → NextSays s p out b q → (r ≡ q) × (a ≡ b)
next_unique x y = (x.answers ∙ sym y.answers, x.left ∙ sym y.left)
