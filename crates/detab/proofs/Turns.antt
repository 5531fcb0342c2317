-- The loop of the converter: the bytes before a place are as they will be, and those from it on are still to be converted. Assumes nothing.
use mathlib.Core.Path.{◌≡◌, refl, ap}
use mathlib.Core.Bool.{Bool, false}
use mathlib.Core.List.{List, [], ◌∷◌, ◌++◌}
use Prim.Native.Nat.{ℕ, zero, suc, ◌≤◌, ◌<◌}
use native.Mathlib.Nat.{not-suc-le-zero, le_of_suc-le-suc}
use lib.ListN.{length, get_or, set, take, drop}
use Rattle.table_spec.specs.Tabs.{commented, changed, spaced}

-- the whole text, converted from a place on that is within a comment, or not
abbrev pub from_there : Bool → ℕ → List ℕ → List ℕ
from_there c i s = take i s ++ spaced c (drop i s)

pub at_start : (s : List ℕ) → from_there false 0 s ≡ spaced false s
at_start [] = refl
at_start (b ∷ s) = refl

-- one byte more
pub turn : (c : Bool) (s : List ℕ) (i : ℕ) → i < length s → let s' = set s i (changed c (get_or s i 0)) in from_there (commented c (get_or s i 0) (drop (suc i) s')) (suc i) s' ≡ from_there c i s
unfolding spaced
turn c [] i h = absurd (not-suc-le-zero h)
turn c (b ∷ s) zero h = refl
turn c (b ∷ s) (suc i) h = ap (λ (t : List ℕ). b ∷ t) (turn c s i (le_of_suc-le-suc h))

pub at_end : (c : Bool) (s : List ℕ) (i : ℕ) → length s ≤ i → from_there c i s ≡ s
unfolding spaced
at_end c [] zero h = refl
at_end c [] (suc i) h = refl
at_end c (b ∷ s) zero h = absurd (not-suc-le-zero h)
at_end c (b ∷ s) (suc i) h = ap (λ (t : List ℕ). b ∷ t) (at_end c s i (le_of_suc-le-suc h))
