-- What the functions of the pass over a file's data blocks ensure. Assumes nothing.
use Rattle.std.specs.Prelude.{◌≡◌, false, List, [], ◌∷◌, ℕ, suc, ◌+◌, ◌<◌, ◌≤◌, length}
use Rattle.std.proofs.lemmas.List.Edits.{sets}
use Rattle.label_spec.specs.Labels.{from}
use Rattle.compound_law.specs.Flat.{Last, plain, none, shut, flat}
use Rattle.compound_blocks.specs.declared.Seen.{Seen}

-- What the pass makes of it, where n blocks more than one are looked for and t is the last TITLE's block.
abbrev pub OnSeen : List ℕ → ℕ → Seen → Type 0
OnSeen s at Seen.Over = (n : ℕ) (t : Last) → flat s (from s at false) (suc n) t ≡ []
OnSeen s at (Seen.End x q) = (at ≤ x) × (x < q) × (q < length s) × ((n : ℕ) (t : Last) → flat s (from s at false) (suc n) t ≡ shut (flat s (from s (q + 1) false)) n x q t)
OnSeen s at (Seen.Title x q) = (at ≤ x) × (x < q) × (q < length s) × ((n : ℕ) (t : Last) → flat s (from s at false) (suc n) t ≡ flat s (from s (q + 1) false) (suc n) (plain x q))
OnSeen s at (Seen.Link q) = (at < q) × (q < length s) × ((n : ℕ) (t : Last) → flat s (from s at false) (suc n) t ≡ flat s (from s (q + 1) false) (suc n) none)
OnSeen s at (Seen.Other q) = (at < q) × (q < length s) × ((n : ℕ) (t : Last) → flat s (from s at false) (suc n) t ≡ flat s (from s (q + 1) false) (suc n) t)

pub record Sees (s : List ℕ) (at : ℕ) (r : Seen) : Type 0 where
  pub says : OnSeen s at r

-- The four numbers of a block, stored from the entry i on.
pub record Puts (out : List ℕ) (i a b c d : ℕ) (out' : List ℕ) : Type 0 where
  pub is : out' ≡ sets out i (a ∷ b ∷ c ∷ d ∷ [])
