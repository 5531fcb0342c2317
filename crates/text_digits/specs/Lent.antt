-- What is lent to those who count and store digits. Assumes nothing.
use Rattle.std.specs.Prelude.{◌≡◌, List, ℕ, ◌+◌, ◌≤◌, ◌<◌}
use Rattle.table_text.specs.Digits.{further}
use Rattle.text_digits.specs.Pairs.{pairs}
use Rattle.text_digits.specs.Counts.{counts}

-- the two tables
pub record Tables (t d : List ℕ) : Type 0 where
  pub pairs_are : t ≡ pairs
  pub counts_are : d ≡ counts

-- a number with n further digits from a place on, all within the bytes that are lent; what its first digit is added to is a digit's byte or more
pub record Storable (base v n at room : ℕ) : Type 0 where
  pub least : 48 ≤ base
  pub most : base ≤ 105
  pub digits : n ≡ further 9 v
  pub small : v < 4294967296
  pub lent : at + n < room
