-- The turns of a comparison of names: no place of the code is named here.
use mathlib.Core.Path.{◌≡◌, refl, sym, ap, ◌∙◌}
use mathlib.Core.Bool.{Bool, true, false, not, cond, ◌&&◌}
use mathlib.Core.List.{List, [], ◌∷◌, map}
use Prim.Native.Nat.{ℕ, suc, ◌+◌, ◌-◌, ◌<◌}
use native.Mathlib.Numerals.{add-one}
use native.Mathlib.Omega.{arith}
use lib.Dec.{leb}
use lib.ListN.{length, get_or}
use Rattle.std.specs.List.{filter, list_all}
use Rattle.text.proofs.Passing.{part}
use lib.Seq.{drop-cons}
use borrow.Author.Tests.{eq-eqb, ne_eqb, leb-true, leb-false}
use Rattle.terms.specs.Logic.{pick, no_way, by_case}
use Rattle.terms.specs.Places.{inside}
use Rattle.label_spec.specs.Names.{name_in, norm, ignored, blank, upper, sames}
use Rattle.label_spec.specs.NameLaws.{name_end, whole, left_done, differ}
use Rattle.label_names.specs.Post.{empty, first_of, unlike}

-- Does a byte count in a name? So many do, and so long the name is.
abbrev pub counts : ℕ → Bool
counts b = not (ignored b)

norm_counts : (l : List ℕ) → length (filter counts l) ≡ length (norm l)
unfolding norm
norm_counts [] = refl
norm_counts (b ∷ l) =
    by_case (λ t. length (cond (not t) (b ∷ filter counts l) (filter counts l)) ≡ length (pick t (norm l) (upper b ∷ norm l))) (ignored b) (λ _. norm_counts l) (λ _. ap suc (norm_counts l))

pub length_counts : (s : List ℕ) (i e : ℕ) → length (filter counts (part s i e)) ≡ length (name_in s i e)
unfolding name_in
length_counts s i e = norm_counts (part s i e)

-- The bytes that count, in upper case, are the name as it is compared.
norm_map : (l : List ℕ) → map upper (filter counts l) ≡ norm l
unfolding norm
norm_map [] = refl
norm_map (b ∷ l) =
    by_case (λ t. map upper (cond (not t) (b ∷ filter counts l) (filter counts l)) ≡ pick t (norm l) (upper b ∷ norm l)) (ignored b) (λ _. norm_map l)
    (λ _. ap (λ (n : List ℕ). upper b ∷ n) (norm_map l))

pub name_counts : (s : List ℕ) (i e : ℕ) → map upper (filter counts (part s i e)) ≡ name_in s i e
unfolding name_in
name_counts s i e = norm_map (part s i e)

-- A name is empty where every byte is left out.
norm_empty : (l : List ℕ) → list_all ignored l ≡ empty (norm l)
unfolding norm empty
norm_empty [] = refl
norm_empty (b ∷ l) = by_case (λ t. (t && list_all ignored l) ≡ empty (pick t (norm l) (upper b ∷ norm l))) (ignored b) (λ _. norm_empty l) (λ _. refl)

pub empty_all : (s : List ℕ) (i e : ℕ) → list_all ignored (part s i e) ≡ empty (name_in s i e)
unfolding name_in
empty_all s i e = norm_empty (part s i e)

-- A name's first byte, where it says something, is the first of the name as it is compared.
module _ (s : List ℕ) (i : ℕ) (n : first_of s i ≡ 0 → ⊥) where
  first_some : get_or s i 0 ≡ 0 → ⊥
  unfolding first_of ignored blank upper
  first_some e = n (rw e refl)

  first_in : i < length s
  first_in = inside s i (get_or s i 0) refl (omega (arith, first_some))

  kept_cases : (t : Bool) → ignored (get_or s i 0) ≡ t → ignored (get_or s i 0) ≡ false
  unfolding first_of
  kept_cases true e = absurd (n (rw e refl))
  kept_cases false e = e

  name_first : (e : ℕ) → i < e → name_in s i e ≡ first_of s i ∷ name_in s (i + 1) e
  unfolding name_in norm first_of
  name_first e h =
      let z : e - i ≡ suc (e - (i + 1)) = omega arith in rw (z, drop-cons s i 0 first_in, add-one i, kept_cases (ignored (get_or s i 0)) refl) refl

-- Names whose first bytes differ.
module _ (x y : ℕ) (h : unlike x y ≡ true) where
  unlike_left : x ≡ 0 → ⊥
  unfolding unlike
  unlike_left e = no_way (rw (eq-eqb x 0 e) at h)

  unlike_right : y ≡ 0 → ⊥
  unfolding unlike
  unlike_right e = no_way (rw (ne_eqb x 0 unlike_left, eq-eqb y 0 e) at h)

  unlike_both : x ≡ y → ⊥
  unfolding unlike
  unlike_both e = no_way (rw (ne_eqb x 0 unlike_left, ne_eqb y 0 unlike_right, eq-eqb x y e) at h)

module _ (s : List ℕ) (a : ℕ) (t : List ℕ) (b : ℕ) (h : unlike (first_of s a) (first_of t b) ≡ true) where
  apart_in : b < length t
  apart_in = first_in t b (unlike_right (first_of s a) (first_of t b) h)

  pub apart : (ae be : ℕ) → b < be → sames (name_in s a ae) (name_in t b be) ≡ false
  apart ae be l = rw (name_first t b (unlike_right (first_of s a) (first_of t b) h) be l) (cases (leb ae a) refl)
    where
      cases : (z : Bool) → leb ae a ≡ z → sames (name_in s a ae) (first_of t b ∷ name_in t (b + 1) be) ≡ false
      cases true e = rw (name_end s a ae (leb-true ae a e)) (left_done _ _)
      cases false e =
          rw (name_first s a (unlike_left (first_of s a) (first_of t b) h) ae (leb-false ae a e)) (differ _ _ _ _ (unlike_both (first_of s a) (first_of t b) h))

pub apart_word : (s : List ℕ) (a : ℕ) (t : List ℕ) → unlike (first_of s a) (first_of t 0) ≡ true → (e : ℕ) → sames (name_in s a e) (norm t) ≡ false
apart_word s a t h e = ap (sames (name_in s a e)) (sym (whole t)) ∙ apart s a t 0 h e (length t) (apart_in s a t 0 h)

pub told_apart : (s : List ℕ) (a x : ℕ) → x ≡ first_of s a → (t : List ℕ) (b y : ℕ) → y ≡ first_of t b → (z : Bool) → z ≡ unlike x y → z ≡ true
    → unlike (first_of s a) (first_of t b) ≡ true
told_apart s a x e t b y f z g n = rw (← e, ← f) (sym g ∙ n)
