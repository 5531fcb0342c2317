-- The numbers 0 to 99 in two digits each, and their rule by one test over the whole table. Assumes nothing.
use Rattle.std.specs.Prelude.{◌≡◌, Bool, List, [], ◌∷◌, ℕ, ◌+◌, ◌*◌, ◌/◌, ◌%◌, ◌<◌, eqb, get_or}
use Rattle.std.proofs.Common.{arith, eqb→eq}
use Rattle.terms.specs.Logic.{pick}
use Rattle.alphabet_spec.specs.EveryLaws.{at}

-- the table
unfoldable pub pairs : List ℕ
pairs =
    48 ∷ 48 ∷ 48 ∷ 49 ∷ 48 ∷ 50 ∷ 48 ∷ 51 ∷ 48 ∷ 52 ∷ 48 ∷ 53 ∷ 48 ∷ 54 ∷ 48 ∷ 55 ∷ 48 ∷ 56 ∷ 48 ∷ 57
    ∷ 49 ∷ 48 ∷ 49 ∷ 49 ∷ 49 ∷ 50 ∷ 49 ∷ 51 ∷ 49 ∷ 52 ∷ 49 ∷ 53 ∷ 49 ∷ 54 ∷ 49 ∷ 55 ∷ 49 ∷ 56 ∷ 49 ∷ 57
    ∷ 50 ∷ 48 ∷ 50 ∷ 49 ∷ 50 ∷ 50 ∷ 50 ∷ 51 ∷ 50 ∷ 52 ∷ 50 ∷ 53 ∷ 50 ∷ 54 ∷ 50 ∷ 55 ∷ 50 ∷ 56 ∷ 50 ∷ 57
    ∷ 51 ∷ 48 ∷ 51 ∷ 49 ∷ 51 ∷ 50 ∷ 51 ∷ 51 ∷ 51 ∷ 52 ∷ 51 ∷ 53 ∷ 51 ∷ 54 ∷ 51 ∷ 55 ∷ 51 ∷ 56 ∷ 51 ∷ 57
    ∷ 52 ∷ 48 ∷ 52 ∷ 49 ∷ 52 ∷ 50 ∷ 52 ∷ 51 ∷ 52 ∷ 52 ∷ 52 ∷ 53 ∷ 52 ∷ 54 ∷ 52 ∷ 55 ∷ 52 ∷ 56 ∷ 52 ∷ 57
    ∷ 53 ∷ 48 ∷ 53 ∷ 49 ∷ 53 ∷ 50 ∷ 53 ∷ 51 ∷ 53 ∷ 52 ∷ 53 ∷ 53 ∷ 53 ∷ 54 ∷ 53 ∷ 55 ∷ 53 ∷ 56 ∷ 53 ∷ 57
    ∷ 54 ∷ 48 ∷ 54 ∷ 49 ∷ 54 ∷ 50 ∷ 54 ∷ 51 ∷ 54 ∷ 52 ∷ 54 ∷ 53 ∷ 54 ∷ 54 ∷ 54 ∷ 55 ∷ 54 ∷ 56 ∷ 54 ∷ 57
    ∷ 55 ∷ 48 ∷ 55 ∷ 49 ∷ 55 ∷ 50 ∷ 55 ∷ 51 ∷ 55 ∷ 52 ∷ 55 ∷ 53 ∷ 55 ∷ 54 ∷ 55 ∷ 55 ∷ 55 ∷ 56 ∷ 55 ∷ 57
    ∷ 56 ∷ 48 ∷ 56 ∷ 49 ∷ 56 ∷ 50 ∷ 56 ∷ 51 ∷ 56 ∷ 52 ∷ 56 ∷ 53 ∷ 56 ∷ 54 ∷ 56 ∷ 55 ∷ 56 ∷ 56 ∷ 56 ∷ 57
    ∷ 57 ∷ 48 ∷ 57 ∷ 49 ∷ 57 ∷ 50 ∷ 57 ∷ 51 ∷ 57 ∷ 52 ∷ 57 ∷ 53 ∷ 57 ∷ 54 ∷ 57 ∷ 55 ∷ 57 ∷ 56 ∷ 57 ∷ 57
    ∷ []

-- the byte at a place: the tens and the ones in turn
abbrev byte : ℕ → ℕ
byte k = 48 + pick (eqb (k % 2) 0) (k / 2 / 10) (k / 2 % 10)

right : ℕ → ℕ → Bool
right k x = eqb x (byte k)

is_byte : (k : ℕ) → k < 200 → get_or pairs k 0 ≡ byte k
unfolding pairs right
is_byte k h = eqb→eq (get_or pairs k 0) (byte k) (at right pairs tt k h)

pub is_tens : (r : ℕ) → r < 100 → get_or pairs (2 * r) 0 ≡ 48 + r / 10
is_tens r h =
    let e : 2 * r % 2 ≡ 0 = omega arith in
    let f : 2 * r / 2 ≡ r = omega arith in
    let z = is_byte (2 * r) (omega arith) in
    rw (e, f) at z

pub is_ones : (r : ℕ) → r < 100 → get_or pairs (2 * r + 1) 0 ≡ 48 + r % 10
is_ones r h =
    let e : (2 * r + 1) % 2 ≡ 1 = omega arith in
    let f : (2 * r + 1) / 2 ≡ r = omega arith in
    let z = is_byte (2 * r + 1) (omega arith) in
    rw (e, f) at z
