-- 02, T-14: on one input the two engines give one outcome, and it is the one that the plain definition says. Assumes nothing.
use Rattle.std.specs.Prelude.{◌≡◌, List, ℕ, ℤ, length, Result}
use Rattle.std.proofs.Common.{sym, ap, ◌∙◌}
use Rattle.table_spec.specs.Reading.{stored}
use Rattle.table_read.specs.Answers.{told, TableSays}
use Rattle.table_read.specs.Unique.{outcome_unique}
use Rattle.plain_spec.specs.Plain.{plain_table}
use Rattle.plain_law.specs.Agree.{plain_table_lem, plain_stored}
use Rattle.terms.specs.declared.Refusal.{Refusal}

-- what `table_read::read_table` ensures, and what `plain_read::read_plain` does: number, place, line, column, count and every entry of the lent slice are the same
pub engines_agree : {f l : ℤ} {n : ℕ} {body : List ℕ} {out a b : List ℤ} {r q : Result ℕ Refusal} → TableSays f l n body out a r → TableSays f l n body out b q → (r ≡ q) × (a ≡ b)
engines_agree x y = outcome_unique x y

-- the definition that is read top to bottom, plain_spec, is what both answer and lay
pub plain_says : {f l : ℤ} {n : ℕ} {body : List ℕ} {out out' : List ℤ} {r : Result ℕ Refusal} → TableSays f l n body out out' r
    → (r ≡ told n body (plain_table f l n body (length out))) × (out' ≡ stored out (plain_table f l n body (length out)))
plain_says {f} {l} {n} {body} {out} x = (
  x.answers ∙ ap (told n body) (sym (plain_table_lem f l n body (length out))),
  x.leaves ∙ sym (plain_stored f l n body out),
)
