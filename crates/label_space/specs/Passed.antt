-- What passing over blanks, line ends and comments ensures. Assumes nothing.
use Rattle.std.specs.Prelude.{◌≡◌, List, ℕ, ◌≤◌, length}
use Rattle.label_spec.specs.Space.{past_space}

-- r is the place after blanks, line ends and comments.
pub record Passed (s : List ℕ) (at r : ℕ) : Type 0 where
  pub low : at ≤ r
  pub high : r ≤ length s
  pub is : r ≡ past_space s at
