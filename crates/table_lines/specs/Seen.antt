-- The tokens of a body from a place on: what is left to read from here, and how it goes on by one byte. Assumes nothing.
use Rattle.std.specs.Prelude.{◌≡◌, refl, Bool, false, List, [], ◌∷◌, ℕ, zero, suc, ◌+◌, ◌-◌, ◌≤◌, ◌<◌, eqb, length, get_or, drop}
use Rattle.std.proofs.Common.{ap, ◌∙◌, subst, arith, add-zero, add-suc, suc-add, le_of_suc-le-suc, not-suc-le-zero, drop_of_length-le, length-drop, drop-cons, drop-drop, ne_eqb}
use Rattle.terms.specs.Logic.{pick}
use Rattle.alphabet_spec.specs.Kinds.{tabs_too}
use Rattle.alphabet_spec.specs.Bytes.{Byte, kind}
use Rattle.alphabet_spec.proofs.KindLaws.{Back, kind_back}
use Rattle.alphabet_spec.specs.Entries.{entry_at, kind_of}
use Rattle.alphabet_spec.proofs.EntryLaws.{at_kind}
use Rattle.table_spec.specs.Reading.{Tokens, Mode, inner, step, stop, tokens}

-- what is left to read from the place i
unfoldable pub seen : List ℕ → ℕ → Mode → Tokens
seen s i m = tokens tabs_too (drop i s) 0 i m

-- what stands n bytes after the place i
unfoldable pub later : List ℕ → ℕ → ℕ → Mode → Tokens
later s i n m = tokens tabs_too (drop i s) n i m

-- is the byte before the place a blank?
unfoldable pub behind : List ℕ → ℕ → Bool
behind s i = pick (eqb i 0) false (eqb (entry_at s (i - 1)) 112)

-- what is left to read within a line
abbrev pub here : List ℕ → ℕ → Tokens
here s i = seen s i (inner (behind s i))

skip : (t : List ℕ) (n a : ℕ) (m : Mode) → n ≤ length t → tokens tabs_too t n a m ≡ tokens tabs_too (drop n t) 0 (a + n) m
unfolding tokens
skip t zero a m h = rw (add-zero a) refl
skip [] (suc n) a m h = absurd (not-suc-le-zero h)
skip (b ∷ t) (suc n) a m h = skip t n (suc a) m (le_of_suc-le-suc h) ∙ rw (suc-add a n, ← add-suc a n) refl

pub seen_step : (s : List ℕ) (i : ℕ) (m : Mode) → i < length s → seen s i m ≡ step (later s (suc i)) i (drop (suc i) s) m (kind tabs_too (get_or s i 0))
unfolding seen later tokens
seen_step s i m h = rw (drop-cons s i 0 h) refl

pub seen_end : (s : List ℕ) (i : ℕ) (m : Mode) → length s ≤ i → seen s i m ≡ stop i m
unfolding seen tokens
seen_end s i m h = rw (drop_of_length-le s h) refl

pub later_seen : (s : List ℕ) (i j : ℕ) (m : Mode) → i ≤ j → j ≤ length s → later s i (j - i) m ≡ seen s j m
unfolding seen later
later_seen s i j m h l =
    let e : i + (j - i) ≡ j = omega arith in
    skip (drop i s) (j - i) i m (omega (arith, length-drop i s)) ∙ rw (drop-drop (j - i) i s, e) refl

pub later_none : (s : List ℕ) (i : ℕ) (m : Mode) → later s i 0 m ≡ seen s i m
unfolding seen later
later_none s i m = refl

-- the step at a place whose entry is known
pub seen_kind : (s : List ℕ) (i : ℕ) (m : Mode) (c : Byte) → i < length s → kind_of (entry_at s i) ≡ c → seen s i m ≡ step (later s (suc i)) i (drop (suc i) s) m c
seen_kind s i m c h e = seen_step s i m h ∙ ap (step (later s (suc i)) i (drop (suc i) s) m) (at_kind s i h ∙ e)

-- the byte at a place, by what its entry says
pub byte_back : (s : List ℕ) (i : ℕ) (c : Byte) → i < length s → kind_of (entry_at s i) ≡ c → Back tabs_too (get_or s i 0) c
byte_back s i c h k = subst (Back tabs_too (get_or s i 0)) (at_kind s i h ∙ k) (kind_back tabs_too (get_or s i 0))

-- a byte that is no blank lies behind the next place
pub not_behind : (s : List ℕ) (i : ℕ) → (entry_at s i ≡ 112 → ⊥) → behind s (i + 1) ≡ false
unfolding behind
not_behind s i n = let f : i + 1 - 1 ≡ i = omega arith in rw (ne_eqb (i + 1) 0 (λ k. omega arith), f) (ne_eqb (entry_at s i) 112 n)
