-- A run of digits at the front of a text, "always as long as it can be" (01, "Values"). Assumes nothing.
use Rattle.std.specs.Prelude.{Bool, false, List, [], ◌∷◌, ℕ, zero, suc, ◌+◌, ◌-◌, ◌*◌, ltb, leb}
use Rattle.terms.specs.Logic.{pick}

-- is b one of the n bytes from lo on?
abbrev pub within : ℕ → ℕ → ℕ → Bool
within lo n b = pick (leb lo b) (ltb b (lo + n)) false

-- what a run says: its number and how many digits it has; or that more digits stand there than may
pub data Run : Type 0 where
  long : Run
  run : ℕ → ℕ → Run

-- a further digit d, where m more may stand
abbrev pub one_more : (ℕ → ℕ → ℕ → Run) → ℕ → ℕ → ℕ → ℕ → Run
one_more K zero v n d = long
one_more K (suc m) v n d = K m (v * 10 + d) (suc n)

-- the digits at the front of a text, at most m, after the number v and n digits
unfoldable pub digits : List ℕ → ℕ → ℕ → ℕ → Run
digits [] m v n = run v n
digits (b ∷ s) m v n = pick (within 48 10 b) (one_more (digits s) m v n (b - 48)) (run v n)

-- at least one digit
abbrev pub some : Run → Run
some long = long
some (run v zero) = long
some (run v (suc n)) = run v (suc n)
