-- The public contract of a file's report, and that its outcome is unique. Assumes nothing.
use Rattle.std.specs.Prelude.{◌≡◌, List, ℕ, ℤ, length, Result}
use Rattle.std.proofs.Common.{sym, ◌∙◌}
use Rattle.night_spec.specs.Night.{report_as, leaves}
use Rattle.terms.specs.declared.Refusal.{Refusal}
use Rattle.night_spec.specs.declared.Account.{Account}

-- the file, the lent slice before and after, and the report
pub record ReportSays (f : List ℕ) (out out' : List ℤ) (r : Result Account Refusal) : Type 0 where
  pub answers : r ≡ report_as (length out) f
  pub left : out' ≡ leaves out f

pub report_unique : {f : List ℕ} {out a b : List ℤ} {r q : Result Account Refusal} → ReportSays f out a r → ReportSays f out b q → (r ≡ q) × (a ≡ b)
report_unique x y = (x.answers ∙ sym y.answers, x.left ∙ sym y.left)
