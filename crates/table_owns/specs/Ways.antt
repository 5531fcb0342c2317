-- How far a run of ordinates of their own has come, and the state of the code that it stands for. Assumes nothing.
use Rattle.std.specs.Prelude.{◌≡◌, List, ◌⊎◌, ℕ, ◌<◌, eqb, ℤ}
use Rattle.terms.specs.Logic.{pick}
use Rattle.table_value.specs.States.{Went}
use Rattle.table_value.specs.declared.Cur.{Cur}

-- the state that a run has reached which began in the state c, at a place, with so many points, the last one q, if it took any
abbrev pub state : Cur → ℕ → ℕ → ℕ → Cur
state c at k q = record { at = at; k = k; q = q; want = c.want; step = 0; form = 2 }

abbrev pub reached : Cur → ℕ → ℕ → ℕ → Cur
reached c at k q = pick (eqb k c.k) c (state c at k q)

-- nothing was taken yet, or that state is reached, and what was stored
abbrev pub Been : ℕ → List ℕ → Cur → ℕ → ℕ → ℕ → List ℤ → List ℤ → Type 0
Been N s c at k q out out' = ((at ≡ c.at) × (k ≡ c.k) × (out' ≡ out)) ⊎ ((c.k < k) × Went N s c (state c at k q) out out')
