-- Every ordinate that is spelled is below 2^32: as y + 2^31, or 0 for a missing one (01, "The frame of a table"). Assumes nothing.
use Rattle.std.specs.Prelude.{List, [], ◌∷◌, ℕ, ◌<◌}

-- 2^32
abbrev pub ordinates_end : ℕ
ordinates_end = 4294967296

abbrev pub Small : List ℕ → Type 0
Small [] = Unit {0}
Small (u ∷ us) = (u < ordinates_end) × Small us
