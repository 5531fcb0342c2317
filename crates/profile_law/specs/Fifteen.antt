-- The profile has fifteen records, and three numbers show each.
use Rattle.std.specs.Prelude.{◌≡◌, refl, List, [], ◌∷◌, ℕ, suc, ◌*◌, length, Option, Some, None}
use Rattle.std.proofs.Common.{arith}
use Rattle.profile_spec.specs.Wanted.{Wanted, wanted}
use Rattle.profile_spec.specs.Profile.{located, numbers, all_numbers}
use Rattle.profile_spec.specs.declared.Shown.{Shown}

pub long : length wanted ≡ 15
unfolding wanted
long = refl

numbers_long : (l : Option Shown) (ns : List ℕ) → length (numbers l ns) ≡ suc (suc (suc (length ns)))
unfolding numbers
numbers_long (Some x) ns = refl
numbers_long None ns = refl

pub all_long : (s : List ℕ) (start stop : ℕ) (p : List ℕ) (vs : List Wanted) → length (all_numbers s start stop p vs) ≡ 3 * length vs
unfolding all_numbers
all_long s start stop p [] = refl
all_long s start stop p (v ∷ vs) = let x = numbers_long (located s start stop p v.name) (all_numbers s start stop p vs) in let y = all_long s start stop p vs in omega arith
