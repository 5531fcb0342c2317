-- The end of a block, by its parts. Assumes nothing.
use Rattle.std.specs.Prelude.{ℕ}
use Rattle.compound_spec.specs.declared.Own.{Own}
use Rattle.compound_walk.specs.declared.Closed.{Closed}

-- the places of END's `##` and `=`, what the block's own labels said, and how many data blocks stand in it
abbrev pub closing_with : ℕ → ℕ → Own → ℕ → Closed
closing_with a b c d = record { end = a; last = b; own = c; count = d }
