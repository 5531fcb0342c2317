-- What finding a record of the profile ensures. Assumes nothing.
use Rattle.std.specs.Prelude.{◌≡◌, List, ℕ, ◌≤◌, length, Option, Some, None}
use Rattle.profile_spec.specs.Profile.{located, source}
use Rattle.profile_spec.specs.declared.Shown.{Shown}

-- the places of a text lie in the one of the two in which it stands
abbrev pub LocatedIn : List ℕ → List ℕ → Option Shown → Type 0
LocatedIn s p (Some x) = (x.from ≤ x.to) × (x.to ≤ length (source s p x.page))
LocatedIn s p None = Unit {0}

-- r is where the record with the name w stands
pub record Locates (s : List ℕ) (start stop : ℕ) (p w : List ℕ) (r : Option Shown) : Type 0 where
  pub is : r ≡ located s start stop p w
  pub inside : LocatedIn s p r
