-- How many digits numbers of at most four have, by ranges and by comparisons added up. No place of the code is named here. Assumes nothing.
use mathlib.Core.Path.{◌≡◌, refl, sym}
use mathlib.Core.Bool.{Bool, true, false}
use Prim.Native.Nat.{ℕ, ◌+◌, ◌≤◌, ◌<◌}
use native.Mathlib.Omega.{arith}
use lib.Dec.{ltb, lit≤}
use mir.Val.{bool_byte}
use borrow.Author.Tests.{ltb-true, ltb-false, lt-ltb, le-ltb}
use Rattle.terms.specs.Logic.{pick, by_case}
use Rattle.table_text.specs.Digits.{further}
use Rattle.table_text.specs.DigitLaws.{count_none, count_two, count_three, count_four, count_end}

-- what holds of numbers of one digit, of two, of three and of four
pub by_digits : (P : ℕ → Type 0) (v : ℕ) → v < 10000 → (v < 10 → P v) → (10 ≤ v → v < 100 → P v) → (100 ≤ v → v < 1000 → P v) → (1000 ≤ v → P v) → P v
by_digits P v h a b c d =
    by_case (λ _. P v) (ltb v 10) (λ e. a (ltb-true v 10 e))
    (λ e. by_case (λ _. P v) (ltb v 100) (λ f. b (ltb-false v 10 e) (ltb-true v 100 f))
    (λ f. by_case (λ _. P v) (ltb v 1000) (λ g. c (ltb-false v 100 f) (ltb-true v 1000 g)) (λ g. d (ltb-false v 1000 g))))

module _ (v : ℕ) where
  pub further_one : v < 10 → further 9 v ≡ 0
  further_one h = sym (count_end v 0 10 (count_none v) h).0

  pub further_two : 10 ≤ v → v < 100 → further 9 v ≡ 1
  further_two l h = sym (count_end v 1 100 (count_two v (omega arith) l) h).0

  pub further_three : 100 ≤ v → v < 1000 → further 9 v ≡ 2
  further_three l h = sym (count_end v 2 1000 (count_three v (omega arith) l) h).0

  pub further_four : 1000 ≤ v → v < 10000 → further 9 v ≡ 3
  further_four l h = sym (count_end v 3 10000 (count_four v (omega arith) l) h).0

-- the number of a test
pub bit_is : (b : Bool) → bool_byte b ≡ pick b 1 0
bit_is true = refl
bit_is false = refl

abbrev sum_of : ℕ → ℕ
sum_of v = pick (ltb 9 v) 1 0 + pick (ltb 99 v) 1 0 + pick (ltb 999 v) 1 0

sum_is : (v : ℕ) → v < 10000 → (sum_of v ≡ further 9 v) × (sum_of v ≤ 3)
sum_is v h =
    by_digits (λ v. (sum_of v ≡ further 9 v) × (sum_of v ≤ 3)) v h
    (λ a. rw (further_one v a, le-ltb 9 v (omega arith), le-ltb 99 v (omega arith), le-ltb 999 v (omega arith)) (refl, lit≤ tt))
    (λ l a. rw (further_two v l a, lt-ltb 9 v (omega arith), le-ltb 99 v (omega arith), le-ltb 999 v (omega arith)) (refl, lit≤ tt))
    (λ l a. rw (further_three v l a, lt-ltb 9 v (omega arith), lt-ltb 99 v (omega arith), le-ltb 999 v (omega arith)) (refl, lit≤ tt))
    (λ l. rw (further_four v l h, lt-ltb 9 v (omega arith), lt-ltb 99 v (omega arith), lt-ltb 999 v (omega arith)) (refl, lit≤ tt))

pub further_sum : (v a b c : ℕ) → v < 10000 → a ≡ pick (ltb 9 v) 1 0 → b ≡ pick (ltb 99 v) 1 0 → c ≡ pick (ltb 999 v) 1 0 → (a + b + c ≡ further 9 v) × (a + b + c ≤ 3)
further_sum v a b c h e f g = rw (e, f, g) (sum_is v h)

pub further_few : (v : ℕ) → v < 10000 → further 9 v ≤ 3
further_few v h = let z = sum_is v h in omega (arith, z.0, z.1)
