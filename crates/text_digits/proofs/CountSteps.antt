-- What the counting of digits by bits needs: the rule of the table, by one test over the whole of it. No place of the code is named here. Assumes nothing.
use mathlib.Core.Path.{◌≡◌, refl}
use mathlib.Core.Bool.{Bool, true, false}
use Prim.Native.Nat.{ℕ, suc, ◌+◌, ◌-◌, ◌*◌, ◌/◌, ◌^◌, ◌≤◌, ◌<◌}
use native.Mathlib.Omega.{arith}
use native.Mathlib.Nat.{pow-succ', pow-le-pow_right}
use lib.Count.{count_leading_zeros, leading_le, leading_length}
use lib.Dec.{T, eqb, leb, ltb, lit<}
use lib.ListN.{get_or}
use borrow.Author.Tests.{leb-true, leb-false, ltb-true, ltb-false, eqb-true}
use Rattle.terms.specs.Logic.{pick, both, both_true, by_case}
use Rattle.alphabet_spec.specs.EveryLaws.{at}
use Rattle.table_text.specs.Digits.{further}
use Rattle.text_digits.specs.Counts.{counts}
use Rattle.text_digits.proofs.DigitSteps.{counted}

-- the most digits that an entry is for, and the number from which it counts so many, or 0
abbrev most : ℕ → ℕ
most x = (x + 4294967295) / 4294967296

abbrev least : ℕ → ℕ
least x = most x * 4294967296 - x

-- no number of so many bits has fewer than j + 1 digits
abbrev reached : ℕ → ℕ → Bool
reached k j = pick (eqb j 0) true (leb (4 * 10 ^ j) (2 ^ k))

abbrev from : ℕ → ℕ → Bool
from k x = pick (eqb (least x) 0) (reached k (most x - 1)) (both (eqb (least x) (10 ^ (most x - 1))) (both (ltb 0 (most x - 1)) (reached k (most x - 1 - 1))))

right : ℕ → ℕ → Bool
right k x = both (leb x 42949672960) (both (ltb 0 (most x)) (both (leb (2 ^ k) (2 * 10 ^ most x)) (from k x)))

is_true : (b : Bool) → T b → b ≡ true
is_true true t = refl
is_true false t = absurd t

turned : ℕ → ℕ → Bool
turned i x = right (32 - i) x

by_place : (i : ℕ) → i < 32 → right (32 - i) (get_or counts i 0) ≡ true
unfolding counts right turned
by_place i h = is_true _ (at turned counts tt i h)

is_right : (k : ℕ) → 0 < k → k ≤ 32 → right k (get_or counts (32 - k) 0) ≡ true
is_right k l h = let e : 32 - (32 - k) ≡ k = omega arith in rw e at (by_place (32 - k) (omega arith))

-- v, for which 2 v + 1 has k bits
module _ (k v : ℕ) (lo : 2 ^ k ≤ 2 * (2 * v + 1) + 1) where
  has_reached : (j : ℕ) → reached k j ≡ true → 0 < j → 10 ^ j ≤ v
  has_reached j =
      by_case (λ q. eqb j 0 ≡ q → pick q true (leb (4 * 10 ^ j) (2 ^ k)) ≡ true → 0 < j → 10 ^ j ≤ v) (eqb j 0)
      (λ _ e t h. absurd (omega (arith, eqb-true j 0 e))) (λ _ e t h. omega (arith, leb-true (4 * 10 ^ j) (2 ^ k) t)) refl

  module _ (x : ℕ) (up : 2 * v + 1 < 2 ^ k) (small : x ≤ 42949672960) (some : 0 < most x) (short : 2 ^ k ≤ 2 * 10 ^ most x) (v_small : v < 4294967296) where
    in_all : (n : ℕ) → n ≤ 9 → (0 < n → 10 ^ n ≤ v) → v < 10 ^ suc n → n ≡ further 9 v
    in_all n l a b = (counted v n l a b).0

    -- all numbers of so many bits have as many digits
    alike : least x ≡ 0 → reached k (most x - 1) ≡ true → (v + x) / 4294967296 ≡ 1 + further 9 v
    alike e t =
        let n = most x - 1 in
        let s : suc n ≡ most x = omega arith in
        let z = in_all n (omega arith) (has_reached n t) (rw s (omega arith)) in
        omega arith

    -- some have one digit less
    differ : least x ≡ 10 ^ (most x - 1) → 0 < most x - 1 → reached k (most x - 1 - 1) ≡ true → (v + x) / 4294967296 ≡ 1 + further 9 v
    differ e p t =
        let n = most x - 1 in
        let s : suc n ≡ most x = omega arith in
        let s' : suc (n - 1) ≡ n = omega arith in
        by_case (λ _. (v + x) / 4294967296 ≡ 1 + further 9 v) (leb (10 ^ n) v)
        (λ g. let z = in_all n (omega arith) (λ _. leb-true (10 ^ n) v g) (rw s (omega arith)) in omega (arith, leb-true (10 ^ n) v g))
        (λ g. let z = in_all (n - 1) (omega arith) (has_reached (n - 1) t) (rw s' (leb-false (10 ^ n) v g)) in omega (arith, leb-false (10 ^ n) v g))

-- 2 v + 1 has k bits
record Bits (v k : ℕ) : Type 0 where
  pub up : 2 * v + 1 < 2 ^ k
  pub lo : 2 ^ k ≤ 2 * (2 * v + 1) + 1

-- they are one more than the bits of v
bits_are : (v : ℕ) → v < 2147483648 → Bits v (33 - count_leading_zeros 32 v)
bits_are v h =
    let z = leading_length 32 v (omega arith) in
    let e : 33 - count_leading_zeros 32 v ≡ suc z.0 = omega (arith, z.1) in
    let d = pow-succ' 2 z.0 in
    rw e (record { up = omega (arith, d, z.2); lo = omega (arith, d, z.3) })

exponents : (k n : ℕ) → 2 ^ k < 2 ^ n → k < n
exponents k n h =
    by_case (λ _. k < n) (ltb k n) (λ e. ltb-true k n e)
    (λ e. let l : n ≤ k = ltb-false k n e in let z : 2 ^ n ≤ 2 ^ k = pow-le-pow_right (lit< tt) l in absurd (omega arith))

module _ {v k : ℕ} (b : Bits v k) (h : v < 2147483648) where
  some_bits : 0 < k
  some_bits = let up = b.up in exponents 0 k (omega arith)

  bits_few : k < 33
  bits_few = let lo = b.lo in exponents k 33 (omega arith)

  entry_small : get_or counts (32 - k) 0 ≤ 42949672960
  unfolding right
  entry_small = leb-true (get_or counts (32 - k) 0) 42949672960 (both_true _ _ (is_right k some_bits (omega (arith, bits_few)))).0

  by_table : (v + get_or counts (32 - k) 0) / 4294967296 ≡ 1 + further 9 v
  unfolding right
  by_table =
      let x = get_or counts (32 - k) 0 in
      let r = both_true _ _ (is_right k some_bits (omega (arith, bits_few))) in
      let r' = both_true _ _ r.1 in
      let r'' = both_true _ _ r'.1 in
      let small = leb-true x 42949672960 r.0 in
      let some = ltb-true 0 (most x) r'.0 in
      let short = leb-true (2 ^ k) (2 * 10 ^ most x) r''.0 in
      by_case (λ q. eqb (least x) 0 ≡ q → pick q (reached k (most x - 1)) (both (eqb (least x) (10 ^ (most x - 1))) (both (ltb 0 (most x - 1)) (reached k (most x - 1 - 1)))) ≡ true
      → (v + x) / 4294967296 ≡ 1 + further 9 v) (eqb (least x) 0)
      (λ _ e t. alike k v b.lo x b.up small some short (omega arith) (eqb-true (least x) 0 e) t)
      (λ _ e t. let y = both_true _ _ t in let y' = both_true _ _ y.1 in
      differ k v b.lo x b.up small some short (omega arith) (eqb-true (least x) (10 ^ (most x - 1)) y.0) (ltb-true 0 (most x - 1) y'.0) y'.1)
      refl r''.1

-- the entry by the zeros before the bits of v, one of which is there in any case
module _ (v : ℕ) (h : v < 2147483648) where
  abbrev zeros : ℕ
  zeros = count_leading_zeros 32 v

  pub zeros_some : 0 < zeros
  zeros_some = omega (arith, bits_few (bits_are v h) h)

  pub zeros_in : zeros - 1 < 32
  zeros_in = omega (arith, leading_le 32 v)

  place : 32 - (33 - zeros) ≡ zeros - 1
  place = omega (arith, zeros_some, leading_le 32 v)

  pub zeros_small : get_or counts (zeros - 1) 0 ≤ 42949672960
  zeros_small = rw place at (entry_small (bits_are v h) h)

  pub zeros_count : (v + get_or counts (zeros - 1) 0) / 4294967296 ≡ 1 + further 9 v
  zeros_count = rw place at (by_table (bits_are v h) h)
