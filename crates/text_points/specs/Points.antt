-- What counting point by point starts from. Assumes nothing.
use Rattle.std.specs.Prelude.{◌≡◌, List, ℕ, ◌+◌, ◌≤◌, ◌<◌, get_or}
use Rattle.table_spec.specs.Frame.{apart}
use Rattle.table_text.specs.Digits.{further}
use Rattle.text_openings.specs.declared.State.{State}

-- y is the next point after the state, not a missing one, and its DIF alone ends at the column `wide`, within the line
pub record Opens (ys : List ℕ) (s : State) (y wide : ℕ) : Type 0 where
  pub here : y ≡ get_or ys s.given 0
  pub some : 0 < y
  pub small : y < 4294967296
  pub wide_is : wide ≡ s.column + (1 + further 9 (apart s.last y))
  pub fits : wide ≤ 80
