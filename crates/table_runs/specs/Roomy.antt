-- Where a run may begin. Assumes nothing.
use Rattle.std.specs.Prelude.{◌≡◌, Bool, true, List, ℕ, ◌+◌, ◌≤◌, length}
use Rattle.table_value.specs.declared.Cur.{Cur}

-- a run may begin in the state c: there is room for a short difference, and its ordinate is ten million or more from the least and the largest
abbrev pub Roomy : List ℕ → Cur → Bool → Type 0
Roomy s c t = t ≡ true → (c.at + 4 ≤ length s) × (10000000 ≤ c.q) × (c.q ≤ 4284967296)
