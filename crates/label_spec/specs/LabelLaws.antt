-- The walk from a place on, and what the code's steps need of it.
use Rattle.std.specs.Prelude.{◌≡◌, Bool, List, ℕ, ◌+◌, ◌≤◌, ◌<◌, eqb, ltb, length, drop, Option, Some, None}
use Rattle.std.proofs.Math.Path.{refl}
use Rattle.std.proofs.Common.{sym, ap, ◌∙◌, drop_of_length-le, drop-cons}
use Rattle.std.proofs.Math.Bool.{true, false}
use Rattle.std.proofs.Math.Numerals.{add-one}
use native.Mathlib.Omega.{arith}
use Rattle.std.proofs.Math.Nat.{add_assoc}
use Rattle.std.proofs.Math.ListN.{get_or, get_or-eq_default}
use Rattle.std.proofs.Math.Seq.{drop-drop}
use borrow.Author.Tests.{ltb-true, ltb-false, eqb-true, eq-eqb, ne_eqb, le-leb, lt-leb}
use Rattle.label_spec.specs.declared.Label.{Label}
use Rattle.terms.specs.Logic.{pick, no_way, both_true}
use Rattle.label_spec.specs.SharedLaws.{pick_same, first_byte}
use Rattle.label_spec.specs.Names.{blank, name_in}
use Rattle.label_spec.specs.Labels.{Walk, over, bad, label, longest_name, eq_in, headed, step, walk, from, hashed}

-- The line's first `=` from the place i on.
unfoldable pub eq_at : List ℕ → ℕ → Option ℕ
eq_at s i = eq_in (drop i s) i

-- The place r, if `=` stands there.
unfoldable pub spot_at : List ℕ → ℕ → Option ℕ
spot_at s r = pick (eqb (get_or s r 0) 61) (Some r) None

pub spot_yes : (s : List ℕ) (r : ℕ) → get_or s r 0 ≡ 61 → spot_at s r ≡ Some r
unfolding spot_at
spot_yes s r e = rw (eq-eqb (get_or s r 0) 61 e) refl

pub spot_no : (s : List ℕ) (r : ℕ) → (get_or s r 0 ≡ 61 → ⊥) → spot_at s r ≡ None
unfolding spot_at
spot_no s r n = rw (ne_eqb (get_or s r 0) 61 n) refl

pub eq_end : (s : List ℕ) (i : ℕ) → length s ≤ i → eq_at s i ≡ spot_at s i
unfolding eq_at eq_in spot_at
eq_end s i h = rw (drop_of_length-le s h, get_or-eq_default s 0 h) refl

module _ (s : List ℕ) (i : ℕ) (h : i < length s) where
  eq_step : eq_at s i ≡ pick (eqb (get_or s i 0) 61) (Some i) (pick (eqb (get_or s i 0) 10) None (eq_at s (i + 1)))
  unfolding eq_at eq_in
  eq_step = rw (drop-cons s i 0 h, add-one i) refl

  pub eq_here : get_or s i 0 ≡ 61 → eq_at s i ≡ spot_at s i
  unfolding spot_at
  eq_here e = rw (eq_step, eq-eqb (get_or s i 0) 61 e) refl

  pub eq_line : get_or s i 0 ≡ 10 → eq_at s i ≡ spot_at s i
  unfolding spot_at
  eq_line e = let z : get_or s i 0 ≡ 61 → ⊥ = λ f. omega arith in rw (eq_step, ne_eqb (get_or s i 0) 61 z, eq-eqb (get_or s i 0) 10 e) refl

  pub eq_on : (get_or s i 0 ≡ 61 → ⊥) → (get_or s i 0 ≡ 10 → ⊥) → eq_at s i ≡ eq_at s (i + 1)
  eq_on a b = rw (eq_step, ne_eqb (get_or s i 0) 61 a, ne_eqb (get_or s i 0) 10 b) refl

-- The walk at the end, and at a byte.
pub from_end : (s : List ℕ) (i : ℕ) (t : Bool) → length s ≤ i → from s i t ≡ over
unfolding from walk
from_end s i t h = rw (drop_of_length-le s h) refl

module _ (s : List ℕ) (i : ℕ) (h : i < length s) where
  from_step : (t : Bool) → from s i t ≡ step (from s (i + 1)) (drop (i + 1) s) i t (get_or s i 0)
  unfolding from walk
  from_step t = rw (drop-cons s i 0 h, add-one i) refl

  pub skip_on : (get_or s i 0 ≡ 10 → ⊥) → from s i false ≡ from s (i + 1) false
  unfolding step
  skip_on n = rw (from_step false, ne_eqb (get_or s i 0) 10 n) refl

  pub skip_line : get_or s i 0 ≡ 10 → from s i false ≡ from s (i + 1) true
  unfolding step
  skip_line e = rw (from_step false, eq-eqb (get_or s i 0) 10 e) refl

  pub blank_on : blank (get_or s i 0) ≡ true → from s i true ≡ from s (i + 1) true
  unfolding step
  blank_on e = rw (from_step true, e) refl

  pub no_label : blank (get_or s i 0) ≡ false → hashed s i ≡ false → from s i true ≡ from s i false
  unfolding step hashed
  no_label b n = rw (from_step true, from_step false, b, first_byte s (i + 1), n) refl

  is_label : blank (get_or s i 0) ≡ false → hashed s i ≡ true → from s i true ≡ headed (drop (i + 2) s) i (i + 2) (from s (i + 1) false) (eq_at s (i + 2))
  unfolding step hashed eq_at
  is_label b y = rw (from_step true, b, first_byte s (i + 1), y, drop-drop 1 (i + 1) s, add_assoc i 1 1) refl

-- Does `##` stand there?
pub hash_no : (s : List ℕ) (i : ℕ) → (get_or s i 0 ≡ 35 → ⊥) → false ≡ hashed s i
unfolding hashed
hash_no s i n = rw (ne_eqb (get_or s i 0) 35 n) refl

pub hash_end : (s : List ℕ) (i : ℕ) → length s ≤ i + 1 → get_or s i 0 ≡ 35 → false ≡ hashed s i
unfolding hashed
hash_end s i h e = rw (eq-eqb (get_or s i 0) 35 e, get_or-eq_default s 0 h) refl

pub hash_next : (s : List ℕ) (i : ℕ) → get_or s i 0 ≡ 35 → eqb (get_or s (i + 1) 0) 35 ≡ hashed s i
unfolding hashed
hash_next s i e = rw (eq-eqb (get_or s i 0) 35 e) refl

pub hash_out : (s : List ℕ) (i : ℕ) → length s ≤ i + 1 → hashed s i ≡ false
unfolding hashed
hash_out s i h = rw (get_or-eq_default s 0 h) (pick_same (eqb (get_or s i 0) 35) false)

pub hash_in : (s : List ℕ) (i : ℕ) → hashed s i ≡ true → i + 1 < length s
hash_in s i y = cases (ltb (i + 1) (length s)) refl
  where
    cases : (t : Bool) → ltb (i + 1) (length s) ≡ t → i + 1 < length s
    cases true e = ltb-true (i + 1) (length s) e
    cases false e = no_way (sym (hash_out s i (ltb-false (i + 1) (length s) e)) ∙ y)

-- .. and its second byte is `#`
pub hash_second : (s : List ℕ) (i : ℕ) → hashed s i ≡ true → get_or s (i + 1) 0 ≡ 35
unfolding hashed
hash_second s i y = eqb-true (get_or s (i + 1) 0) 35 (both_true (eqb (get_or s i 0) 35) (eqb (get_or s (i + 1) 0) 35) y).1

pub hash_blank : (s : List ℕ) (i : ℕ) → hashed s i ≡ true → blank (get_or s i 0) ≡ false
unfolding hashed
hash_blank s i y = rw (eqb-true (get_or s i 0) 35 (both_true (eqb (get_or s i 0) 35) (eqb (get_or s (i + 1) 0) 35) y).0) (unfold blank in refl)

-- What an answer makes of the rest.
unfoldable pub resume : List ℕ → Label → Walk
resume s Label.None = over
resume s (Label.Bad m) = bad m (from s (m + 1) false)
resume s (Label.At m n e) = label m n e (name_in s n e) (from s (e + 1) false)

-- The label whose `##` stands at i.
module _ (s : List ℕ) (i : ℕ) (y : hashed s i ≡ true) where
  pub label_is : from s i true ≡ headed (drop (i + 2) s) i (i + 2) (from s (i + 1) false) (eq_at s (i + 2))
  label_is = is_label s i (omega (arith, hash_in s i y)) (hash_blank s i y) y

  pub label_none : eq_at s (i + 2) ≡ None → from s i true ≡ resume s (Label.Bad i)
  unfolding headed resume
  label_none e = rw (label_is, e) refl

  pub label_long : (e : ℕ) → eq_at s (i + 2) ≡ Some e → longest_name < length (name_in s (i + 2) e) → from s i true ≡ resume s (Label.Bad i)
  unfolding headed resume name_in
  label_long e q l = rw (label_is, q, lt-leb (length (name_in s (i + 2) e)) longest_name l) refl

  pub hash_skip : from s (i + 1) false ≡ from s (i + 2) false
  hash_skip =
      let n : get_or s (i + 1) 0 ≡ 10 → ⊥ = λ e. omega (arith, hash_second s i y) in
      skip_on s (i + 1) (hash_in s i y) n ∙ ap (λ (k : ℕ). from s k false) (add_assoc i 1 1)

  pub label_at : (e : ℕ) → eq_at s (i + 2) ≡ Some e → from s (i + 2) false ≡ from s (e + 1) false
      → length (name_in s (i + 2) e) ≤ longest_name → from s i true ≡ resume s (Label.At i (i + 2) e)
  unfolding headed resume name_in
  label_at e q g l = rw (label_is, q, le-leb (length (name_in s (i + 2) e)) longest_name l, hash_skip, g) refl
