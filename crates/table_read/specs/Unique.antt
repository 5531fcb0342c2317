-- The outcome of reading a table is determined: two outcomes that meet the contract on one input are equal. Assumes nothing.
use Rattle.std.specs.Prelude.{◌≡◌, List, ℕ, ℤ, Result}
use Rattle.std.proofs.Common.{sym, ◌∙◌}
use Rattle.table_read.specs.Answers.{TableSays}
use Rattle.terms.specs.declared.Refusal.{Refusal}

pub outcome_unique : {f l : ℤ} {n : ℕ} {body : List ℕ} {out a b : List ℤ} {r q : Result ℕ Refusal} → TableSays f l n body out a r → TableSays f l n body out b q → (r ≡ q) × (a ≡ b)
outcome_unique x y = (x.answers ∙ sym y.answers, x.leaves ∙ sym y.leaves)
