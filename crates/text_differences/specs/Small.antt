-- Numbers of at most four digits, stored in four bytes whatever they have (01, "The written text"). Assumes nothing.
use Rattle.std.specs.Prelude.{◌≡◌, List, [], ◌∷◌, ◌++◌, ℕ, ◌+◌, ◌/◌, ◌%◌, ◌≤◌, length}
use Rattle.std.proofs.lemmas.List.Edits.{sets}
use Rattle.text_digits.specs.Pairs.{pairs}

-- what makes a number with so many further digits one of four digits
unfoldable pub scales : List ℕ
scales = 1000 ∷ 100 ∷ 10 ∷ 1 ∷ []

-- the two tables that are lent
pub record Scales (t k : List ℕ) : Type 0 where
  pub pairs_are : t ≡ pairs
  pub scales_are : k ≡ scales

-- four digits, the first written as a base plus the digit
unfoldable pub four : ℕ → ℕ → List ℕ
four base w = (base + w / 1000) ∷ (48 + w / 100 % 10) ∷ (48 + w / 10 % 10) ∷ (48 + w % 10) ∷ []

-- the piece g is stored from a place on, and at most three bytes after it that are to be stored over
pub record Over (o : List ℕ) (at : ℕ) (o' : List ℕ) (g : List ℕ) : Type 0 where
  pub rest : List ℕ
  pub stored : o' ≡ sets o at (g ++ rest)
  pub few : length rest ≤ 3
