-- Ordinates that move by differences, and how far they may (01, "Meaning"). Assumes nothing.
use Rattle.std.specs.Prelude.{Bool, true, false, ℕ, ◌+◌, ◌*◌, ◌<◌, ◌≤◌}
use Rattle.terms.specs.Logic.{pick}
use Rattle.table_spec.specs.Values.{moved}
use Rattle.table_spec.specs.Reading.{in_range}

-- an ordinate moved by a difference, or 0 where that is out of range
abbrev pub shifted_to : Bool → ℕ → ℕ → ℕ
shifted_to m v q = pick (in_range (moved m v q)) (moved m v q) 0

-- n steps of a size from an ordinate keep within 32 bits
abbrev pub Reaches : Bool → ℕ → ℕ → ℕ → Type 0
Reaches true d n q = d * n ≤ q
Reaches false d n q = q + d * n < 4294967296
