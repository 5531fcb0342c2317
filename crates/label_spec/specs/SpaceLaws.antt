-- What the code's steps need of blanks, line ends and comments.
use Rattle.std.specs.Prelude.{◌≡◌, Bool, true, false, not, List, ◌⊎◌, ℕ, ◌+◌, ◌≤◌, ◌<◌, eqb, length, get_or, drop}
use Rattle.std.proofs.Math.Path.{refl}
use Rattle.std.proofs.Common.{inl, inr, drop_of_length-le, drop-cons, eq-eqb, ne_eqb}
use Rattle.std.proofs.Math.Numerals.{add-one}
use Rattle.terms.specs.Logic.{pick}
use Rattle.label_spec.specs.SharedLaws.{first_byte}
use Rattle.label_spec.specs.Names.{blank}
use Rattle.label_spec.specs.Space.{space, opens, past, past_at}

pub past_end : (s : List ℕ) (i : ℕ) (t : Bool) → length s ≤ i → past_at s i t ≡ i
unfolding past_at past
past_end s i t h = rw (drop_of_length-le s h) refl

module _ (s : List ℕ) (i : ℕ) (h : i < length s) where
  pub past_in : past_at s i true ≡ past_at s (i + 1) (not (eqb (get_or s i 0) 10))
  unfolding past_at past
  past_in = rw (drop-cons s i 0 h, ← add-one i) refl

  past_out : past_at s i false ≡ pick (space (get_or s i 0)) (past_at s (i + 1) false) (pick (opens (get_or s i 0) (get_or (drop (i + 1) s) 0 0)) (past_at s (i + 1) true) i)
  unfolding past_at past
  past_out = rw (drop-cons s i 0 h, add-one i) refl

  pub past_space : space (get_or s i 0) ≡ true → past_at s i false ≡ past_at s (i + 1) false
  past_space e = rw (past_out, e) refl

  pub past_opens : space (get_or s i 0) ≡ false → opens (get_or s i 0) (get_or s (i + 1) 0) ≡ true → past_at s i false ≡ past_at s (i + 1) true
  past_opens e o = rw (past_out, e, first_byte s (i + 1), o) refl

  pub past_stop : space (get_or s i 0) ≡ false → opens (get_or s i 0) (get_or s (i + 1) 0) ≡ false → past_at s i false ≡ i
  past_stop e o = rw (past_out, e, first_byte s (i + 1), o) refl

-- From tests to facts.
pub space_line : (b : ℕ) → b ≡ 10 → true ≡ space b
unfolding space blank
space_line b e = rw e refl

pub space_blank : (b : ℕ) → (b ≡ 9) ⊎ (b ≡ 32) → true ≡ space b
unfolding space blank
space_blank b (inl e) = rw e refl
space_blank b (inr e) = rw e refl

pub space_none : (b : ℕ) → (b ≡ 10 → ⊥) → ((b ≡ 9) ⊎ (b ≡ 32) → ⊥) → false ≡ space b
unfolding space blank
space_none b a n = rw (ne_eqb b 32 (λ e. n (inr e)), ne_eqb b 9 (λ e. n (inl e)), ne_eqb b 10 a) refl

pub opens_cr : (b c d : ℕ) → d ≡ c → b ≡ 13 → eqb d 10 ≡ opens b c
unfolding opens
opens_cr b c d g e = rw (eq-eqb b 13 e, g) refl

pub opens_dollar : (b c d : ℕ) → d ≡ c → (b ≡ 13 → ⊥) → b ≡ 36 → eqb d 36 ≡ opens b c
unfolding opens
opens_dollar b c d g n e = rw (ne_eqb b 13 n, eq-eqb b 36 e, g) refl

pub opens_no : (b c : ℕ) → (b ≡ 13 → ⊥) → (b ≡ 36 → ⊥) → false ≡ opens b c
unfolding opens
opens_no b c n m = rw (ne_eqb b 13 n, ne_eqb b 36 m) refl
