-- What the functions on keywords ensure. Assumes nothing.
use Rattle.std.specs.Prelude.{◌≡◌, Bool, true, List, ℕ, ◌+◌, ◌≤◌, length, take, drop}
use Rattle.label_spec.specs.Names.{sames}

-- Does the word w stand at the place p of t?
unfoldable pub worded : List ℕ → ℕ → List ℕ → Bool
worded t p w = sames (take (length w) (drop p t)) w

pub record Worded (t : List ℕ) (p : ℕ) (w : List ℕ) (r : Bool) : Type 0 where
  pub is : r ≡ worded t p w
  pub fits : r ≡ true → p + length w ≤ length t
