-- With what an ordinate of its own begins, and its number. Assumes nothing.
use Rattle.std.specs.Prelude.{Bool, true, List, ℕ, ◌+◌, ◌<◌, ◌≤◌, leb, eqb}
use Rattle.terms.specs.Logic.{pick}
use Rattle.alphabet_spec.specs.Entries.{entry_at}
use Rattle.alphabet.specs.Ran.{Ran}
use Rattle.alphabet.specs.declared.Run.{Run}
use Rattle.table_spec.specs.Values.{own}
use Rattle.table_numbers.specs.Numbers.{Token}
use Rattle.table_leads.specs.declared.Lead.{Lead}

-- an ordinate is minus that begins with `-` or with a small letter
abbrev pub falls : ℕ → Bool
falls b = pick (eqb b 45) true (leb 97 b)

-- an ordinate of its own begins at the place i with the byte b; its first digit is v, and at most nine more stand from j on: whatever number they make is its own
pub record LeadAt (s : List ℕ) (i b v j : ℕ) : Type 0 where
  pub digit : v < 10
  pub near : j ≤ i + 2
  pub token : (w k : ℕ) → Ran s j v 9 w k (entry_at s k) → 16 ≤ entry_at s k → Token s i (own (falls b) w) k

-- a digit that was found begins one; what is no digit says nothing
abbrev pub Leading : List ℕ → ℕ → ℕ → Lead → Type 0
Leading s i b l = l.v ≤ 9 → LeadAt s i b l.v l.at

-- a number that an ordinate may have is that of one at the place i; a larger one says nothing
abbrev pub OwnAt : List ℕ → ℕ → ℕ → Run → Type 0
OwnAt s i b r = r.v ≤ 2147483647 → Token s i (own (falls b) r.v) r.at
