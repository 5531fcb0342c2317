-- What the functions on the lines of a file and the labels on them ensure (01, The file). Assumes nothing.
use Rattle.std.specs.Prelude.{◌≡◌, Bool, true, false, List, ℕ, ◌+◌, ◌<◌, ◌≤◌, length, get_or}
use Rattle.label_spec.specs.Names.{blank}
use Rattle.label_spec.specs.Labels.{from, hashed}
use Rattle.label_spec.specs.LabelLaws.{eq_at, spot_at, resume}
use Rattle.label_spec.specs.declared.Label.{Label}

-- r is the place of the line's first `=` from i on, or of its end.
pub record NameEnd (s : List ℕ) (i r : ℕ) : Type 0 where
  pub low : i ≤ r
  pub high : r ≤ length s
  pub is : eq_at s i ≡ spot_at s r
  pub same : from s i false ≡ from s r false

-- LF stands at i or after it.
pub record Ahead (s : List ℕ) (i : ℕ) : Type 0 where
  pub place : ℕ
  pub low : i ≤ place
  pub high : place < length s
  pub is : get_or s place 0 ≡ 10

-- Is LF one of the bytes from i up to j?
pub record Within (s : List ℕ) (i j : ℕ) (r : Bool) : Type 0 where
  pub some : r ≡ true → Ahead s i
  pub none : r ≡ false → from s i false ≡ from s j false

-- r is the place of the line's LF from i on, or the end.
pub record LineEnd (s : List ℕ) (i r : ℕ) : Type 0 where
  pub low : i ≤ r
  pub high : r ≤ length s
  pub same : from s i false ≡ from s r false
  pub stops : r < length s → get_or s r 0 ≡ 10

-- r is the place after blanks.
pub record Unblanked (s : List ℕ) (i r : ℕ) : Type 0 where
  pub low : i ≤ r
  pub high : r ≤ length s
  pub same : from s i true ≡ from s r true
  pub stops : r < length s → blank (get_or s r 0) ≡ false

-- r is the place of the next `##` that is first on a line after i, or the end.
pub record Marked (s : List ℕ) (i r : ℕ) : Type 0 where
  pub low : i ≤ r
  pub high : r ≤ length s
  pub same : from s i false ≡ from s r true
  pub stops : r < length s → hashed s r ≡ true

-- The next label from `at` on is r. The mode: do only blanks stand before on the line?
abbrev pub MetIn : ℕ → ℕ → Label → Type 0
MetIn at len (Label.At m n e) = (at ≤ m) × (n ≡ m + 2) × (n ≤ e) × (e < len)
MetIn at len (Label.Bad m) = (at ≤ m) × (m < len)
MetIn at len Label.None = Unit

pub record Met (s : List ℕ) (at : ℕ) (t : Bool) (r : Label) : Type 0 where
  pub good : MetIn at (length s) r
  pub law : from s at t ≡ resume s r
