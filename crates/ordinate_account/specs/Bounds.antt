-- What the numbers of a file's report cannot go beyond. Assumes nothing.
use Rattle.std.specs.Prelude.{◌≤◌, nat_abs, Result, Ok, Err}
use Rattle.table_spec.specs.Frame.{most_points}
use Rattle.night_spec.specs.Steps.{largest_sum}
use Rattle.night_spec.specs.declared.Account.{Account}
use Rattle.terms.specs.declared.Refusal.{Refusal}

pub record AccountIn (a : Account) : Type 0 where
  pub points : a.points ≤ most_points
  pub missing : a.missing ≤ a.points
  pub sum : nat_abs a.sum ≤ largest_sum

abbrev pub ReportIn : Result Account Refusal → Type 0
ReportIn (Ok a) = AccountIn a
ReportIn (Err r) = Unit {0}
