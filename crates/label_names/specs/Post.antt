-- What the functions on names ensure (01, The file, "Names compare in upper case"). Assumes nothing.
use Rattle.std.specs.Prelude.{◌≡◌, Bool, true, false, not, List, [], ◌∷◌, ℕ, ◌<◌, ◌≤◌, eqb, get_or}
use Rattle.terms.specs.Logic.{pick}
use Rattle.label_spec.specs.Names.{name_in, ignored, upper}

-- r is the next place that counts in the name from i up to e, or e.
pub record Kept (s : List ℕ) (i e r : ℕ) : Type 0 where
  pub low : i ≤ r
  pub high : r ≤ e
  pub same : name_in s i e ≡ name_in s r e
  pub stops : r < e → ignored (get_or s r 0) ≡ false

-- Has the name no byte?
unfoldable pub empty : List ℕ → Bool
empty [] = true
empty (b ∷ w) = false

-- The first byte of a name that starts at i, as it is compared. 0 says nothing: it is left out, or the text is over.
unfoldable pub first_of : List ℕ → ℕ → ℕ
first_of s i = pick (ignored (get_or s i 0)) 0 (upper (get_or s i 0))

-- Do names differ by these first bytes?
unfoldable pub unlike : ℕ → ℕ → Bool
unlike x y = pick (eqb x 0) false (pick (eqb y 0) false (not (eqb x y)))
