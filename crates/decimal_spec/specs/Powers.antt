-- The powers of ten (01, The file: "from a table of powers of ten"), and their rule by one test over the whole table.
use Rattle.std.specs.Prelude.{◌≡◌, Bool, List, [], ◌∷◌, ℕ, ◌^◌, ◌<◌, eqb, get_or}
use Rattle.std.proofs.Common.{eqb→eq}
use Rattle.alphabet_spec.specs.EveryLaws.{at}

-- the table: the powers that the division needs, ten to the 0 to ten to the 18
unfoldable pub powers : List ℕ
powers =
    1
    ∷ 10
    ∷ 100
    ∷ 1000
    ∷ 10000
    ∷ 100000
    ∷ 1000000
    ∷ 10000000
    ∷ 100000000
    ∷ 1000000000
    ∷ 10000000000
    ∷ 100000000000
    ∷ 1000000000000
    ∷ 10000000000000
    ∷ 100000000000000
    ∷ 1000000000000000
    ∷ 10000000000000000
    ∷ 100000000000000000
    ∷ 1000000000000000000
    ∷ []

right : ℕ → ℕ → Bool
right k x = eqb x (10 ^ k)

-- each entry is the power that its place says
pub is_power : (k : ℕ) → k < 19 → get_or powers k 0 ≡ 10 ^ k
unfolding powers right
is_power k h = eqb→eq (get_or powers k 0) (10 ^ k) (at right powers tt k h)
