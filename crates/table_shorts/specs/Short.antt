-- Short differences and counts, of at most four digits. Assumes nothing.
use Rattle.std.specs.Prelude.{◌≡◌, true, List, ◌⊎◌, ℕ, ◌<◌, ◌≤◌, leb}
use Rattle.alphabet.specs.declared.Run.{Run}
use Rattle.table_spec.specs.Values.{by, times}
use Rattle.table_numbers.specs.Numbers.{Token}

-- a difference below ten thousand, which begins with the byte b, stands at the place i, and what is left of the line at j; one that is minus is not 0
pub record ShortAt (s : List ℕ) (i b v j : ℕ) : Type 0 where
  pub small : v < 10000
  pub falls : leb 106 b ≡ true → 0 < v
  pub token : Token s i (by (leb 106 b) v) j

-- none was taken, or one was
abbrev pub Short : List ℕ → ℕ → ℕ → Run → Type 0
Short s i b r = (r.at ≡ i) ⊎ ShortAt s i b r.v r.at

-- a count that was taken is that of a DUP at the place i; one below 2 says nothing
abbrev pub Counted : List ℕ → ℕ → Run → Type 0
Counted s i r = 2 ≤ r.v → (r.v < 10000) × Token s i (times r.v) r.at
