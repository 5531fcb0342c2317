-- Titles, byte by byte (02, T-04, 37). Assumes nothing.
use Rattle.std.specs.Prelude.{◌≡◌, Bool, true, false, not, List, [], ◌∷◌, ℕ, suc, ◌+◌, ◌≤◌, ◌<◌, leb, eqb, length, drop}
use Rattle.std.proofs.Math.Path.{refl, sym, ap}
use Rattle.std.proofs.Common.{◌∙◌, arith, add-zero, drop_of_length-le, drop-cons}
use Rattle.std.proofs.Math.Numerals.{add-one}
use Rattle.std.proofs.Math.ListN.{get_or}
use Rattle.std.proofs.Math.Seq.{get_or-drop}
use borrow.Author.Tests.{le-leb, lt-leb, ne_eqb}
use Rattle.terms.specs.Logic.{pick, both}
use Rattle.file_write_spec.specs.File.{printable, dollars, title_legal}

-- b, with c after it: 32 to 126, and not the first of `$$`
unfoldable pub fair_byte : ℕ → ℕ → Bool
fair_byte b c = both (both (leb 32 b) (leb b 126)) (pick (both (eqb b 36) (eqb c 36)) false true)

unfoldable pub clean : List ℕ → Bool
clean [] = true
clean (b ∷ t) = pick (fair_byte b (get_or t 0 0)) (clean t) false

clean_is : (t : List ℕ) → both (printable t) (pick (dollars t) false true) ≡ clean t
unfolding printable dollars clean fair_byte
clean_is [] = refl
clean_is (b ∷ t) = cases (both (leb 32 b) (leb b 126)) (both (eqb b 36) (eqb (get_or t 0 0) 36)) (printable t) (dollars t) (clean t) (clean_is t)
  where
    cases : (w d p e c : Bool) → both p (pick e false true) ≡ c → both (both w p) (pick (pick d true e) false true) ≡ pick (both w (pick d false true)) c false
    cases false d p e c h = refl
    cases true true true e c h = refl
    cases true true false e c h = refl
    cases true false p e c h = h

-- ---- what the code's steps need

pub too_long : (t : List ℕ) → 72 < length t → false ≡ title_legal t
unfolding title_legal
too_long t h = rw (lt-leb (length t) 72 h) refl

pub short : (t : List ℕ) → length t ≤ 72 → clean t ≡ title_legal t
unfolding title_legal
short t h = rw (le-leb (length t) 72 h) (sym (clean_is t))

module _ (s : List ℕ) (i : ℕ) where
  pub clean_end : length s ≤ i → clean (drop i s) ≡ true
  unfolding clean
  clean_end h = rw (drop_of_length-le s h) refl

  step : i < length s → clean (drop i s) ≡ pick (fair_byte (get_or s i 0) (get_or s (i + 1) 0)) (clean (drop (i + 1) s)) false
  unfolding clean
  step h =
      let e : get_or (drop (suc i) s) 0 0 ≡ get_or s (i + 1) 0 = get_or-drop (suc i) s 0 0 ∙ ap (λ (k : ℕ). get_or s k 0) (add-zero (suc i) ∙ sym (add-one i)) in
      rw (drop-cons s i 0 h, e, add-one i) refl

  pub clean_on : i < length s → fair_byte (get_or s i 0) (get_or s (i + 1) 0) ≡ true → clean (drop i s) ≡ clean (drop (i + 1) s)
  clean_on h e = step h ∙ rw e refl

  pub clean_not : i < length s → fair_byte (get_or s i 0) (get_or s (i + 1) 0) ≡ false → clean (drop i s) ≡ false
  clean_not h e = step h ∙ rw e refl

other : (t : Bool) → not t ≡ pick t false true
other true = refl
other false = refl

module _ (b c : ℕ) where
  pub low_byte : b < 32 → false ≡ fair_byte b c
  unfolding fair_byte
  low_byte h = rw (lt-leb 32 b h) refl

  pub high_byte : 126 < b → false ≡ fair_byte b c
  unfolding fair_byte
  high_byte h = rw (le-leb 32 b (omega arith), lt-leb b 126 h) refl

  pub plain_byte : 32 ≤ b → b ≤ 126 → (b ≡ 36 → ⊥) → true ≡ fair_byte b c
  unfolding fair_byte
  plain_byte l h n = rw (le-leb 32 b l, le-leb b 126 h, ne_eqb b 36 n) refl

  pub dollar_byte : b ≡ 36 → not (eqb c 36) ≡ fair_byte b c
  unfolding fair_byte
  dollar_byte e = rw e (other (eqb c 36))
