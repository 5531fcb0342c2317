-- What the totals over so many files cannot go beyond. Assumes nothing.
use Rattle.std.specs.Prelude.{ℕ, ◌*◌, ◌≤◌, nat_abs}
use Rattle.table_spec.specs.Frame.{most_points}
use Rattle.night_spec.specs.Steps.{largest_sum}
use Rattle.night_spec.specs.declared.Totals.{Totals}

pub record TotalsIn (k : ℕ) (t : Totals) : Type 0 where
  pub files : t.files ≤ k
  pub points : t.points ≤ k * most_points
  pub missing : t.missing ≤ t.points
  pub sum : nat_abs t.sum ≤ k * largest_sum
