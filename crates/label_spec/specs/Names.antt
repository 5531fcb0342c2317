-- 01, The file: "Names compare in upper case without blanks, `-`, `/`, `_`".
use Rattle.std.specs.Prelude.{Bool, true, false, List, [], ◌∷◌, ℕ, ◌-◌, leb, eqb, take, drop}
use Rattle.terms.specs.Logic.{pick}

-- Blanks are space and tab (01, Spelling of a body).
unfoldable pub blank : ℕ → Bool
blank b = pick (eqb b 32) true (eqb b 9)

-- The bytes that a name is compared without: blanks, `-`, `/` and `_`.
unfoldable pub ignored : ℕ → Bool
ignored b = pick (blank b) true (pick (eqb b 45) true (pick (eqb b 47) true (eqb b 95)))

-- Upper case, of the letters a to z only.
unfoldable pub upper : ℕ → ℕ
upper b = pick (leb 97 b) (pick (leb b 122) (b - 32) b) b

-- A name as it is compared.
unfoldable pub norm : List ℕ → List ℕ
norm [] = []
norm (b ∷ s) = pick (ignored b) (norm s) (upper b ∷ norm s)

-- The name that stands from i up to e, as it is compared.
unfoldable pub name_in : List ℕ → ℕ → ℕ → List ℕ
name_in s i e = norm (take (e - i) (drop i s))

-- Are two names equal? `sames_eq` and `sames_refl` say that this is equality.
unfoldable pub sames : List ℕ → List ℕ → Bool
sames [] [] = true
sames [] (y ∷ ys) = false
sames (x ∷ xs) [] = false
sames (x ∷ xs) (y ∷ ys) = pick (eqb x y) (sames xs ys) false

-- The names that the rules speak of.
unfoldable pub TITLE : List ℕ
TITLE = 84 ∷ 73 ∷ 84 ∷ 76 ∷ 69 ∷ []

unfoldable pub END : List ℕ
END = 69 ∷ 78 ∷ 68 ∷ []
