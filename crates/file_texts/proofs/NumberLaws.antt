-- A number alone in its text. No place of the code is named here. Assumes nothing.
use mathlib.Core.Path.{◌≡◌, refl}
use mathlib.Core.Bool.{Bool}
use mathlib.Core.List.{List}
use Prim.Native.Nat.{ℕ}
use lib.ListN.{length}
use borrow.Author.Tests.{eq-eqb, ne_eqb}
use Rattle.label_spec.specs.Space.{past_space}
use Rattle.decimal_spec.specs.Number.{number_at, count_at}
use Rattle.file_spec.specs.Figures.{alone, alone_count, decimal_in, count_in}
use Rattle.std.specs.Prelude.{Some, None}
use Rattle.decimal_spec.specs.Parts.{number_with, count_with}

module _ (p : List ℕ) (at : ℕ) (a : at ≡ past_space p 0) where
  pub decimal_no : None ≡ number_at p at → None ≡ decimal_in p
  unfolding decimal_in alone
  decimal_no e = rw (← a, ← e) refl

  module _ (minus : Bool) (m x j : ℕ) (e : Some (number_with minus m x j) ≡ number_at p at) where
    pub decimal_late : (q : ℕ) → q ≡ past_space p j → (q ≡ length p → ⊥) → None ≡ decimal_in p
    unfolding decimal_in alone
    decimal_late q f n = rw (← a, ← e, ← f, ne_eqb q (length p) n) refl

    pub decimal_is : (q : ℕ) → q ≡ past_space p j → q ≡ length p → Some (record { minus = minus; mantissa = m; power = x }) ≡ decimal_in p
    unfolding decimal_in alone
    decimal_is q f n = rw (← a, ← e, ← f, eq-eqb q (length p) n) refl

  pub count_no : None ≡ count_at p at → None ≡ count_in p
  unfolding count_in alone_count
  count_no e = rw (← a, ← e) refl

  module _ (v j : ℕ) (e : Some (count_with v j) ≡ count_at p at) where
    pub count_late : (q : ℕ) → q ≡ past_space p j → (q ≡ length p → ⊥) → None ≡ count_in p
    unfolding count_in alone_count
    count_late q f n = rw (← a, ← e, ← f, ne_eqb q (length p) n) refl

    pub count_is : (q : ℕ) → q ≡ past_space p j → q ≡ length p → Some (count_with v j) ≡ count_in p
    unfolding count_in alone_count
    count_is q f n = rw (← a, ← e, ← f, eq-eqb q (length p) n) refl
