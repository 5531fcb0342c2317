-- The public contract of a step, as a C host is told, and that its outcome is unique. Assumes nothing.
use Rattle.std.specs.Prelude.{◌≡◌, List, ℕ, ℤ, length}
use Rattle.std.proofs.Common.{sym, ◌∙◌}
use Rattle.night_spec.specs.Steps.{answer_of, step_leaves}
use Rattle.host_numbers.specs.Numbers.{refused_of}
use Rattle.night_numbers.specs.Numbers.{progress_of, kept_by, step_answer}

-- the spool, the lent slice before and after, the numbers of the walk before and after, the numbers of the answer, and what is returned
pub record StepTold (s : List ℕ) (out out' : List ℤ) (ks ks' : List ℕ) (answer : List ℕ) (r : ℕ) : Type 0 where
  pub numbers : answer ≡ step_answer (answer_of (length out) s (progress_of ks))
  pub returned : r ≡ refused_of (step_answer (answer_of (length out) s (progress_of ks)))
  pub kept : ks' ≡ kept_by ks (answer_of (length out) s (progress_of ks))
  pub leaves : out' ≡ step_leaves out s (progress_of ks)

pub told_unique : {s : List ℕ} {out o p : List ℤ} {ks k l : List ℕ} {a b : List ℕ} {r q : ℕ} → StepTold s out o ks k a r → StepTold s out p ks l b q → (a ≡ b) × (r ≡ q) × (k ≡ l) × (o ≡ p)
told_unique x y = (x.numbers ∙ sym y.numbers, x.returned ∙ sym y.returned, x.kept ∙ sym y.kept, x.leaves ∙ sym y.leaves)
