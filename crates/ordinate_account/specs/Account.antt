-- What the report says of ordinates that come to this (02, T-11). Assumes nothing.
use Rattle.std.specs.Prelude.{ℕ, ◌-◌, ◌*◌, eqb, Option, Some, None, ℤ}
use Rattle.std.proofs.Math.IntN.{sub_ℕ}
use Rattle.terms.specs.Logic.{pick}
use Rattle.night_spec.specs.declared.Account.{Account}
use Rattle.ordinate_tally.specs.declared.Tally.{Tally}

-- as the report says it
abbrev pub level_from : ℕ → ℕ → Option ℤ
level_from u given = pick (eqb u 0) None (Some (sub_ℕ u (given * 2147483648)))

unfoldable pub account_from : ℕ → Tally → Account
account_from n t = record {
  points = n;
  missing = n - t.given;
  lowest = level_from t.low 1;
  highest = level_from t.high 1;
  sum = sub_ℕ t.raised (t.given * 2147483648);
  faintest = level_from t.faint 0;
}
