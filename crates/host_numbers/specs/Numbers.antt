-- The numbers of an answer as C has them. Assumes nothing.
use Rattle.std.specs.Prelude.{◌≡◌, Bool, List, [], ◌∷◌, ℕ, ◌-◌, ℤ, pos, negsuc}
use Rattle.terms.specs.Logic.{pick}
use Rattle.file_spec.specs.declared.Exactness.{Exactness}

-- refused (0: accepted) is the first number of each answer
abbrev pub refused_of : List ℕ → ℕ
refused_of [] = 0
refused_of (c ∷ rest) = c

-- a truth: 1, or 0. Whether F, L and FIRSTY's quotient are exact: 1, or 0 for what was rounded (02, T-08); three zeros for a table, and after a refusal
abbrev pub flag : Bool → ℕ
flag exact = pick exact 1 0

abbrev pub flags : Exactness → List ℕ
flags e = flag e.first ∷ flag e.last ∷ flag e.firsty ∷ []

abbrev pub no_flags : List ℕ
no_flags = 0 ∷ 0 ∷ 0 ∷ []

-- a number with a sign in 64 bits, in two's complement, as C has it
abbrev pub bits : ℤ → ℕ
bits (pos n) = n
bits (negsuc n) = 18446744073709551615 - n

-- these numbers are told: they stand in the answer, and the first of them is returned
pub record Told (ns : List ℕ) (answer : List ℕ) (r : ℕ) : Type 0 where
  pub numbers : answer ≡ ns
  pub returned : r ≡ refused_of ns
