-- What counting the bytes that pass a test, from a place on, keeps from byte to byte. No place of the code is named here. Assumes nothing.
use mathlib.Core.Path.{◌≡◌, refl, subst, sym, ap, ◌∙◌}
use mathlib.Core.Bool.{Bool, true, false, not, ◌&&◌}
use mathlib.Core.Logic.{◌⊎◌, inl, inr}
use lib.Dec.{eqb}
use borrow.Author.Tests.{eq-eqb, ne_eqb, eqb-true, eqb-false}
use Rattle.terms.specs.Logic.{by_case, no_way}
use mathlib.Core.List.{List}
use Prim.Native.Nat.{ℕ, zero, suc, ◌+◌, ◌-◌, ◌≤◌, ◌<◌}
use native.Mathlib.Omega.{arith}
use lib.ListN.{length, get_or, take, drop}
use Rattle.std.proofs.Common.{length-drop, length-take-le, get_or-drop, get_or-take}
use Rattle.std.proofs.Math.Seq.{take-length}
use Rattle.std.proofs.lemmas.List.Folds.{length-prefix_len}
use Rattle.std.specs.List.{prefix_len}
use Rattle.std.proofs.lemmas.List.Sums.{prefix_len-le-length, prefix_len_passes, prefix_len_stops}

-- what a test of a byte says, where it differs from one byte, or from two
pub differs : (b k : ℕ) → not (eqb b k) ≡ true → b ≡ k → ⊥
differs b k e z = by_case (λ t. eqb b k ≡ t → not t ≡ true → ⊥) (eqb b k) (λ _ _ n. no_way n) (λ _ q _. eqb-false b k q z) refl e

pub equals : (b k : ℕ) → not (eqb b k) ≡ false → b ≡ k
equals b k e = by_case (λ t. eqb b k ≡ t → not t ≡ false → b ≡ k) (eqb b k) (λ _ q _. eqb-true b k q) (λ _ _ n. no_way (sym n)) refl e

pub differ : (b j k : ℕ) → not (eqb b j) && not (eqb b k) ≡ true → (b ≡ j → ⊥) × (b ≡ k → ⊥)
differ b j k e =
    by_case (λ t. not (eqb b j) ≡ t → t && not (eqb b k) ≡ true → (b ≡ j → ⊥) × (b ≡ k → ⊥)) (not (eqb b j)) (λ _ q n. (differs b j q, differs b k n)) (λ _ _ n. no_way n) refl e

pub equal : (b j k : ℕ) → not (eqb b j) && not (eqb b k) ≡ false → (b ≡ j) ⊎ (b ≡ k)
equal b j k e = by_case (λ t. not (eqb b j) ≡ t → t && not (eqb b k) ≡ false → (b ≡ j) ⊎ (b ≡ k)) (not (eqb b j)) (λ _ _ n. inr (equals b k n)) (λ _ q _. inl (equals b j q)) refl e

-- two bytes may be compared either way
pub turned : (a b : ℕ) → eqb a b ≡ eqb b a
turned a b = by_case (λ t. eqb b a ≡ t → eqb a b ≡ t) (eqb b a) (λ _ q. eq-eqb a b (sym (eqb-true b a q))) (λ _ q. ne_eqb a b (λ z. eqb-false b a q (sym z))) refl

-- the text from a place up to another, as a slice of it, and from a place on
abbrev pub part : List ℕ → ℕ → ℕ → List ℕ
part s at end = take (end - at) (drop at s)

abbrev pub rest : List ℕ → ℕ → List ℕ
rest s at = part s at (length s)

pub rest_drop : (s : List ℕ) (at : ℕ) → rest s at ≡ drop at s
rest_drop s at = rw (sym (length-drop at s)) (take-length (drop at s))

-- a byte of it, 0 past the end
pub get_or_rest : (s : List ℕ) (at k : ℕ) → get_or (rest s at) k 0 ≡ get_or s (at + k) 0
get_or_rest s at k = ap (λ (l : List ℕ). get_or l k 0) (rest_drop s at) ∙ get_or-drop at s k 0

module _ (s : List ℕ) (at end : ℕ) (h : at ≤ end) (l : end ≤ length s) where
  pub length_part : length (part s at end) ≡ end - at
  length_part = length-take-le (end - at) (drop at s) (omega (arith, length-drop at s))

  pub get_or_part : (k : ℕ) → at + k < end → get_or (part s at end) k 0 ≡ get_or s (at + k) 0
  get_or_part k m = get_or-take (end - at) (drop at s) k 0 (omega arith) ∙ get_or-drop at s k 0

  module _ (P : ℕ → Type 0) (p : ℕ → Bool) where
    -- what holds at the place that counting reached: P, which each byte that passed carried on, and that the byte there fails
    pub record Passed (r : ℕ) : Type 0 where
      pub low : at ≤ r
      pub high : r ≤ end
      pub kept : P r
      pub stops : r < end → p (get_or s r 0) ≡ false

    module _ (start : P at) (on : (i : ℕ) → at ≤ i → i < end → p (get_or s i 0) ≡ true → P i → P (i + 1)) where
      passing : (k : ℕ) → k ≤ prefix_len p (part s at end) → P (at + k)
      passing zero l = subst P (omega arith) start
      passing (suc k) m =
          let e = prefix_len-le-length p (part s at end) in
          let i : at + k < end = omega (arith, length_part) in
          subst P (omega arith) (on (at + k) (omega arith) i (rw (← get_or_part k i) (prefix_len_passes p (part s at end) k 0 (omega arith))) (passing k (omega arith)))

      -- n bytes from `at` on passed, as `take_while` and `count` give them
      pub passed : (n : ℕ) → n ≡ length (take (prefix_len p (part s at end)) (part s at end)) → Passed (at + n)
      passed n z =
          let e : n ≡ prefix_len p (part s at end) = z ∙ length-prefix_len p (part s at end) in
          let m = prefix_len-le-length p (part s at end) in record {
            low = omega arith;
            high = omega (arith, length_part);
            kept = rw e (passing _ (omega arith));
            stops = λ i. rw (← get_or_part n i, e) (prefix_len_stops p (part s at end) 0 (omega (arith, length_part)));
          }
