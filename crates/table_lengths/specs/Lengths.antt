-- What the functions that look for a long line ensure (02, T-06). Assumes nothing.
use Rattle.std.specs.Prelude.{◌≡◌, Bool, true, false, List, ℕ, suc, ◌+◌, ◌-◌, ◌≤◌, ◌<◌, eqb, length, drop, get_or, Option, Some, None}
use Rattle.terms.specs.Logic.{both}
use Rattle.table_spec.specs.Frame.{longest_line}
use Rattle.table_spec.specs.Reading.{LongLine, all_short, long_at, long_line}

-- the last LF among the 81 bytes from a place on stands directly before r; r is the place itself if there is none
pub record LastLf (s : List ℕ) (at r : ℕ) : Type 0 where
  pub low : at ≤ r
  pub high : r ≤ at + suc longest_line
  pub found : at < r → eqb (get_or s (r - 1) 0) 10 ≡ true
  pub none : (j : ℕ) → r ≤ j → j < at + suc longest_line → eqb (get_or s j 0) 10 ≡ false

-- CR LF stands directly after the 80 bytes from a place on
abbrev pub ends_there : List ℕ → ℕ → Bool
ends_there s at = both (eqb (get_or s (at + longest_line) 0) 13) (eqb (get_or s (at + suc longest_line) 0) 10)

-- where the first line over 80 bytes begins, from a line's first byte on
abbrev pub long_from : List ℕ → ℕ → LongLine
long_from s at = long_line true at (drop at s)

-- from a line's first byte: r is the first byte of a later line, and no line between them is too long; or it is the same, and the line is too long
pub record NextLine (s : List ℕ) (at r : ℕ) : Type 0 where
  pub low : at ≤ r
  pub high : r ≤ length s
  pub on : at < r → long_from s at ≡ long_from s r
  pub long : r ≡ at → long_from s at ≡ long_at at

-- the code's answer
abbrev pub shown_long : LongLine → Option ℕ
shown_long all_short = None
shown_long (long_at a) = Some a
