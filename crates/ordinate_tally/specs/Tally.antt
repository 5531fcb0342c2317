-- The ordinates of a file as the code adds them up, each as y + 2^31, from the last to the first. 0 stands for none. Assumes nothing.
use Rattle.std.specs.Prelude.{◌≡◌, List, [], ◌∷◌, ℕ, ◌+◌, ◌*◌, ◌<◌, ◌≤◌, ltb, eqb}
use Rattle.terms.specs.Logic.{pick}
use Rattle.table_spec.specs.Frame.{zero_ordinate, apart}
use Rattle.ordinate_tally.specs.declared.Tally.{Tally}

abbrev pub less_of : ℕ → ℕ → ℕ
less_of low u = pick (eqb low 0) u (pick (ltb low u) low u)

abbrev pub great_of : ℕ → ℕ → ℕ
great_of high u = pick (ltb u high) high u

abbrev pub faint_of : ℕ → ℕ → ℕ
faint_of faint u = pick (eqb u zero_ordinate) faint (less_of faint (apart u zero_ordinate))

abbrev pub no_ordinate : Tally
no_ordinate = record { given = 0; raised = 0; low = 0; high = 0; faint = 0 }

-- one ordinate more, which is not missing; and one of which that is not known
abbrev pub with_given : Tally → ℕ → Tally
with_given t u = record { given = t.given + 1; raised = t.raised + u; low = less_of t.low u; high = great_of t.high u; faint = faint_of t.faint u }

unfoldable pub with_ordinate : Tally → ℕ → Tally
with_ordinate t u = pick (eqb u 0) t (with_given t u)

unfoldable pub tally_of : List ℕ → Tally
tally_of [] = no_ordinate
tally_of (u ∷ ys) = with_ordinate (tally_of ys) u

-- bounds, for so many points: with at most 65,536 the sum is below 2^48
pub record Bounded (n : ℕ) (t : Tally) : Type 0 where
  pub given : t.given ≤ n
  pub raised : t.raised ≤ t.given * 4294967295
  pub low : t.low < 4294967296
  pub high : t.high < 4294967296
  pub faint : t.faint < 4294967296

pub record Tallied (n : ℕ) (ys : List ℕ) (t : Tally) : Type 0 where
  pub is : t ≡ tally_of ys
  pub bounded : Bounded n t
