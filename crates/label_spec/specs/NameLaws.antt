-- What the code's steps need of names.
use Rattle.std.specs.Prelude.{◌≡◌, Bool, true, false, List, [], ◌∷◌, ◌⊎◌, ℕ, suc, ◌+◌, ◌-◌, ◌≤◌, ◌<◌, eqb, length, get_or, take, drop}
use Rattle.std.proofs.Math.Path.{refl}
use Rattle.std.proofs.Common.{inl, inr, add-one, drop-cons, eq-eqb, ne_eqb, eqb-true, le-leb}
use native.Mathlib.Omega.{arith}
use Rattle.std.proofs.Math.Seq.{take-length}
use Rattle.std.proofs.lemmas.Bool.{lt-leb}
use Rattle.terms.specs.Logic.{pick}
use Rattle.label_spec.specs.Names.{blank, ignored, upper, norm, sames, name_in}

-- A name that starts at i: it is over, its first byte is not kept, or its first byte is kept.
module _ (s : List ℕ) (i e : ℕ) where
  pub name_end : e ≤ i → name_in s i e ≡ []
  unfolding name_in norm
  name_end h = let z : e - i ≡ 0 = omega arith in rw z refl

  name_cons : i < e → e ≤ length s → take (e - i) (drop i s) ≡ get_or s i 0 ∷ take (e - (i + 1)) (drop (i + 1) s)
  name_cons h l =
      let z : e - i ≡ suc (e - (i + 1)) = omega arith in
      let k : i < length s = omega arith in rw (z, drop-cons s i 0 k, add-one i) refl

  pub name_skip : i < e → e ≤ length s → ignored (get_or s i 0) ≡ true → name_in s i e ≡ name_in s (i + 1) e
  unfolding name_in norm
  name_skip h l g = rw (name_cons h l, g) refl

  pub name_keep : i < e → e ≤ length s → ignored (get_or s i 0) ≡ false → name_in s i e ≡ upper (get_or s i 0) ∷ name_in s (i + 1) e
  unfolding name_in norm
  name_keep h l g = rw (name_cons h l, g) refl

-- A word is the part of itself that is as long as it is.
pub whole : (w : List ℕ) → name_in w 0 (length w) ≡ norm w
unfolding name_in
whole w = let z : length w - 0 ≡ length w = omega arith in rw (z, take-length w) refl

-- `sames` is equality.
pub sames_eq : (x y : List ℕ) → sames x y ≡ true → x ≡ y
unfolding sames
sames_eq [] [] h = refl
sames_eq [] (b ∷ y) h = cc
sames_eq (a ∷ x) [] h = cc
sames_eq (a ∷ x) (b ∷ y) h = both (sames_eq x y) (eqb a b) refl h
  where
    both : (sames x y ≡ true → x ≡ y) → (t : Bool) → eqb a b ≡ t → pick t (sames x y) false ≡ true → a ∷ x ≡ b ∷ y
    both k true q g = let f = eqb-true a b q in let r = k g in cc
    both k false q g = cc

pub sames_refl : (x : List ℕ) → sames x x ≡ true
unfolding sames
sames_refl [] = refl
sames_refl (a ∷ x) = rw (eq-eqb a a refl) (sames_refl x)

-- The turns of a comparison.
pub both_done : sames [] [] ≡ true
unfolding sames
both_done = refl

pub left_done : (y : ℕ) (ys : List ℕ) → sames [] (y ∷ ys) ≡ false
unfolding sames
left_done y ys = refl

pub right_done : (x : ℕ) (xs : List ℕ) → sames (x ∷ xs) [] ≡ false
unfolding sames
right_done x xs = refl

pub differ : (x y : ℕ) (xs ys : List ℕ) → (x ≡ y → ⊥) → sames (x ∷ xs) (y ∷ ys) ≡ false
unfolding sames
differ x y xs ys n = rw (ne_eqb x y n) refl

pub agree : (x y : ℕ) (xs ys : List ℕ) → x ≡ y → sames (x ∷ xs) (y ∷ ys) ≡ sames xs ys
unfolding sames
agree x y xs ys e = rw (eq-eqb x y e) refl

-- Capital letters.
pub upper_low : (b : ℕ) → b < 97 → b ≡ upper b
unfolding upper
upper_low b h = rw (lt-leb 97 b h) refl

pub upper_high : (b : ℕ) → 122 < b → b ≡ upper b
unfolding upper
upper_high b h = let l : 97 ≤ b = omega arith in rw (le-leb 97 b l, lt-leb b 122 h) refl

pub upper_small : (b : ℕ) → 97 ≤ b → b ≤ 122 → b - 32 ≡ upper b
unfolding upper
upper_small b h l = rw (le-leb 97 b h, le-leb b 122 l) refl

-- Bytes that a name is compared without, in the order of the code's keys.
abbrev Any : ℕ → Type 0
Any b = (b ≡ 9) ⊎ ((b ≡ 32) ⊎ ((b ≡ 45) ⊎ ((b ≡ 47) ⊎ (b ≡ 95))))

pub ignored_yes : (b : ℕ) → Any b → true ≡ ignored b
unfolding ignored blank
ignored_yes b (inl e) = rw e refl
ignored_yes b (inr (inl e)) = rw e refl
ignored_yes b (inr (inr (inl e))) = rw e refl
ignored_yes b (inr (inr (inr (inl e)))) = rw e refl
ignored_yes b (inr (inr (inr (inr e)))) = rw e refl

pub ignored_no : (b : ℕ) → (Any b → ⊥) → false ≡ ignored b
unfolding ignored blank
ignored_no b n =
    rw (
      ne_eqb b 32 (λ e. n (inr (inl e))),
      ne_eqb b 9 (λ e. n (inl e)),
      ne_eqb b 45 (λ e. n (inr (inr (inl e)))),
      ne_eqb b 47 (λ e. n (inr (inr (inr (inl e))))),
      ne_eqb b 95 (λ e. n (inr (inr (inr (inr e))))),
    ) refl

pub blank_yes : (b : ℕ) → (b ≡ 9) ⊎ (b ≡ 32) → true ≡ blank b
unfolding blank
blank_yes b (inl e) = rw e refl
blank_yes b (inr e) = rw e refl

pub blank_no : (b : ℕ) → ((b ≡ 9) ⊎ (b ≡ 32) → ⊥) → false ≡ blank b
unfolding blank
blank_no b n = rw (ne_eqb b 32 (λ e. n (inr e)), ne_eqb b 9 (λ e. n (inl e))) refl
