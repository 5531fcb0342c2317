-- What the inner functions of the scan ensure. Assumes nothing.
use Rattle.std.specs.Prelude.{◌≡◌, Bool, true, false, List, ℕ, ◌+◌, ◌<◌, ◌≤◌}
use Rattle.terms.specs.Logic.{both}
use Rattle.label_spec.specs.Labels.{from}
use Rattle.label_names.specs.Post.{unlike}
use Rattle.compound_names.specs.declared.Meet.{Meet}
use Rattle.compound_names.specs.OwnNames.{meet, own_known}

-- Does a name with the first byte x differ from END, from TITLE, and from the name with the first byte y, by these bytes?
unfoldable pub other_by : ℕ → ℕ → Bool
other_by x y = both (unlike x 69) (both (unlike x 84) (unlike x y))

-- What an answer makes of the rest of the scan.
abbrev pub rested : (ℕ → Bool) → Meet → Bool
rested K Meet.Known = true
rested K Meet.Over = false
rested K (Meet.Depth d) = K d

abbrev pub DeepBy : ℕ → Meet → Type 0
DeepBy d (Meet.Depth c) = c ≤ d + 1
DeepBy d Meet.Known = Unit
DeepBy d Meet.Over = Unit

-- The label with the name v, d blocks down, where w is looked for.
pub record Meets (w v : List ℕ) (d : ℕ) (r : Meet) : Type 0 where
  pub law : (K : ℕ → Bool) → meet K w v d ≡ rested K r
  pub deep : DeepBy d r

-- The label whose `##` stands at m, good or bad.
pub record Passes (s : List ℕ) (m : ℕ) (w : List ℕ) (d : ℕ) (r : Meet) : Type 0 where
  pub law : (y : ℕ) → m < y → own_known y w (from s m true) d ≡ rested (own_known y w (from s (m + 2) false)) r
  pub deep : DeepBy d r
