-- What the frame's functions ensure (01, "The frame of a table"). Assumes nothing.
use Rattle.std.specs.Prelude.{ℕ, ◌<◌, ◌≤◌, ℤ, Option, Some, None}
use Rattle.frame.specs.declared.Frame.{Frame}
use Rattle.terms.specs.Logic.{pick}
use Rattle.table_spec.specs.Frame.{frame_legal, abscissa, abscissa_legal, most_points}

-- the frame that F, L and N make, or refusal 1
unfoldable pub framed : ℤ → ℤ → ℕ → Option Frame
framed f l n = pick (frame_legal f l n) (Some (record { first = abscissa f; last = abscissa l; points = n })) None

-- x + 10^10, or 0 where x is outside its limit
unfoldable pub lifted : ℤ → ℕ
lifted x = pick (abscissa_legal x) (abscissa x) 0

-- a frame within its limits: whatever `Frame::new` answers is such a one
pub record Sound (fr : Frame) : Type 0 where
  pub low_first : 0 < fr.first
  pub low_last : 0 < fr.last
  pub first : fr.first < 20000000000
  pub last : fr.last < 20000000000
  pub some : 1 ≤ fr.points
  pub few : fr.points ≤ most_points
