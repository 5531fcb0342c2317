-- Lines by their LFs: what lies before an LF among the first 81 bytes is short enough, and a line without one there is too long, unless CR LF follows its 80 bytes. Assumes nothing.
use mathlib.Core.Path.{◌≡◌, refl, ◌∙◌}
use mathlib.Core.Bool.{Bool, true, false}
use mathlib.Core.List.{List, [], ◌∷◌}
use Prim.Native.Nat.{ℕ, zero, suc, ◌+◌, ◌-◌, ◌≤◌, ◌<◌}
use native.Mathlib.Omega.{arith}
use native.Mathlib.Nat.{suc-add}
use native.Mathlib.Numerals.{add-one}
use lib.Dec.{ltb, eqb}
use lib.ListN.{length, drop, get_or, length-drop}
use lib.Seq.{get_or-drop, drop-drop}
use borrow.Author.Tests.{le-ltb, lt-ltb, eqb-true, eqb-false, eq-eqb, ne_eqb}
use Rattle.terms.specs.Logic.{pick, both, by_case, both_true, no_way}
use Rattle.table_spec.specs.Frame.{longest_line}
use Rattle.table_spec.specs.Reading.{starts, line_length, all_short, long_at, long_line}
use Rattle.table_spec.specs.ReadingLaws.{long_first}
use Rattle.table_lengths.specs.Lengths.{LastLf, ends_there, NextLine, long_from}

-- ---- the end of the text

-- a byte more
count_on : (b : ℕ) (t : List ℕ) (k : ℕ) → line_length t ≤ k → line_length (b ∷ t) ≤ suc k
unfolding line_length
count_on b t k l =
    by_case (λ q. pick q 0 (pick (both (eqb b 13) (starts 10 t)) 0 (suc (line_length t))) ≤ suc k) (eqb b 10) (λ _. omega arith)
    (λ _. by_case (λ q. pick q 0 (suc (line_length t)) ≤ suc k) (both (eqb b 13) (starts 10 t)) (λ _. omega arith) (λ _. omega arith))

length_most : (t : List ℕ) → line_length t ≤ length t
unfolding line_length
length_most [] = omega arith
length_most (b ∷ t) = count_on b t (length t) (length_most t)

few_bytes : (begins : Bool) (a : ℕ) (t : List ℕ) → length t ≤ longest_line → long_line begins a t ≡ all_short
unfolding long_line
few_bytes begins a [] l = refl
few_bytes begins a (b ∷ t) l =
    let z = length_most (b ∷ t) in
    let e = le-ltb longest_line (line_length (b ∷ t)) (omega (arith, z, l)) in
    by_case (λ q. pick (both q (ltb longest_line (line_length (b ∷ t)))) (long_at a) (long_line (eqb b 10) (suc a) t) ≡ all_short) begins
    (λ _. rw e (few_bytes (eqb b 10) (suc a) t (omega arith))) (λ _. few_bytes (eqb b 10) (suc a) t (omega arith))

-- ---- an LF after at most 80 bytes

lf_length : (t : List ℕ) (k : ℕ) → eqb (get_or t k 0) 10 ≡ true → line_length t ≤ k
unfolding line_length
lf_length [] k e = omega arith
lf_length (b ∷ t) zero e = rw e (omega arith)
lf_length (b ∷ t) (suc k) e = count_on b t k (lf_length t k e)

no_lf_here : {A : Type 0} (k : ℕ) → eqb (get_or [] k 0) 10 ≡ true → A
no_lf_here zero e = no_way e
no_lf_here (suc k) e = no_way e

lf_in : (t : List ℕ) (k : ℕ) → eqb (get_or t k 0) 10 ≡ true → k < length t
lf_in [] k e = no_lf_here k e
lf_in (b ∷ t) zero e = omega arith
lf_in (b ∷ t) (suc k) e = let z = lf_in t k e in omega arith

-- a line that begins in front of that LF is short enough
short_here : (begins : Bool) (a b : ℕ) (t : List ℕ) → line_length (b ∷ t) ≤ longest_line → long_line begins a (b ∷ t) ≡ long_line (eqb b 10) (suc a) t
unfolding long_line
short_here begins a b t l =
    by_case (λ q. pick (both q (ltb longest_line (line_length (b ∷ t)))) (long_at a) (long_line (eqb b 10) (suc a) t) ≡ long_line (eqb b 10) (suc a) t) begins
    (λ _. rw (le-ltb longest_line (line_length (b ∷ t)) l) refl) (λ _. refl)

past_lf : (t : List ℕ) (k : ℕ) → eqb (get_or t k 0) 10 ≡ true → k ≤ longest_line → (begins : Bool) (a : ℕ) → long_line begins a t ≡ long_line true (a + suc k) (drop (suc k) t)
past_lf [] k e l begins a = no_lf_here k e
past_lf (b ∷ t) zero e l begins a = short_here begins a b t (let z = lf_length (b ∷ t) 0 e in omega (arith, z)) ∙ rw (e, add-one a) refl
past_lf (b ∷ t) (suc k) e l begins a =
    let z = lf_length (b ∷ t) (suc k) e in
    let n : a + suc (suc k) ≡ suc a + suc k = omega arith in
    short_here begins a b t (omega (arith, z, l)) ∙ rw n (past_lf t k e (omega arith) (eqb b 10) (suc a))

-- ---- CR LF after at most 80 bytes

abbrev CrLf : List ℕ → ℕ → Bool
CrLf t k = both (eqb (get_or t k 0) 13) (eqb (get_or t (suc k) 0) 10)

starts_lf : (t : List ℕ) → starts 10 t ≡ eqb (get_or t 0 0) 10
starts_lf [] = refl
starts_lf (b ∷ t) = refl

cr_length : (t : List ℕ) (k : ℕ) → CrLf t k ≡ true → line_length t ≤ k
unfolding line_length
cr_length [] k e = omega arith
cr_length (b ∷ t) zero e = rw (starts_lf t, e) (by_case (λ q. pick q 0 0 ≤ 0) (eqb b 10) (λ _. omega arith) (λ _. omega arith))
cr_length (b ∷ t) (suc k) e = count_on b t k (cr_length t k e)

past_cr : (t : List ℕ) (k : ℕ) → CrLf t k ≡ true → k ≤ longest_line → (begins : Bool) (a : ℕ) → long_line begins a t ≡ long_line true (a + suc (suc k)) (drop (suc (suc k)) t)
past_cr [] k e l begins a = no_lf_here (suc k) (both_true (eqb (get_or [] k 0) 13) (eqb (get_or [] (suc k) 0) 10) e).1
past_cr (b ∷ t) zero e l begins a =
    let z = cr_length (b ∷ t) 0 e in
    let n : a + 2 ≡ suc a + 1 = omega arith in
    short_here begins a b t (omega (arith, z)) ∙ rw n (past_lf t 0 (both_true (eqb b 13) (eqb (get_or t 0 0) 10) e).1 (omega arith) (eqb b 10) (suc a))
past_cr (b ∷ t) (suc k) e l begins a =
    let z = cr_length (b ∷ t) (suc k) e in
    let n : a + suc (suc (suc k)) ≡ suc a + suc (suc k) = omega arith in
    short_here begins a b t (omega (arith, z, l)) ∙ rw n (past_cr t k e (omega arith) (eqb b 10) (suc a))

-- ---- no LF among the first bytes

abbrev NoLfBelow : List ℕ → ℕ → Type 0
NoLfBelow t n = (j : ℕ) → j < n → eqb (get_or t j 0) 10 ≡ false

further : (b : ℕ) (t : List ℕ) (n : ℕ) → NoLfBelow (b ∷ t) (suc n) → NoLfBelow t n
further b t n h j l = h (suc j) (omega arith)

no_cr_lf : (b : ℕ) (t : List ℕ) → eqb (get_or t 0 0) 10 ≡ false → both (eqb b 13) (starts 10 t) ≡ false
no_cr_lf b t e = rw (starts_lf t, e) (by_case (λ q. both q false ≡ false) (eqb b 13) (λ _. refl) (λ _. refl))

long_length : (n : ℕ) (t : List ℕ) → NoLfBelow t (suc n) → n < length t → line_length t ≡ n + line_length (drop n t)
unfolding line_length
long_length zero t h l = omega arith
long_length (suc n) [] h l = absurd (omega arith)
long_length (suc n) (b ∷ t) h l =
    rw (h 0 (omega arith), no_cr_lf b t (h 1 (omega arith)), long_length n t (further b t (suc n) h) (omega arith), suc-add n (line_length (drop n t))) refl

-- from byte 80 on, which is no LF and not the CR of CR LF: that byte is one too many
one_more : (u : List ℕ) → 0 < length u → eqb (get_or u 0 0) 10 ≡ false → CrLf u 0 ≡ false → 1 ≤ line_length u
unfolding line_length
one_more [] l e f = absurd (omega arith)
one_more (c ∷ u) l e f = rw (e, starts_lf u, f) (omega arith)

-- ---- the same in a text, from a place on

module _ (s : List ℕ) (at : ℕ) where
  byte_in : (j : ℕ) → get_or (drop at s) j 0 ≡ get_or s (at + j) 0
  byte_in j = get_or-drop at s j 0

  below : {r : ℕ} → LastLf s at r → r ≡ at → NoLfBelow (drop at s) 81
  below g e j l = rw (byte_in j) (g.none (at + j) (omega arith) (omega arith))

  -- an LF was found
  pub lf_found : {r : ℕ} → LastLf s at r → at < r → long_from s at ≡ long_from s r
  lf_found {r} g l =
      let high = g.high in
      let k = r - suc at in
      let e : at + k ≡ r - 1 = omega arith in
      let n : at + suc k ≡ r = omega arith in
      let f : eqb (get_or (drop at s) k 0) 10 ≡ true = rw (byte_in k, e) (g.found l) in
      rw (drop-drop (suc k) at s, n) at (past_lf (drop at s) k f (omega arith) true at)

  module _ (h : NoLfBelow (drop at s) 81) (l : at + 80 < length s) where
    long_enough : 80 < length (drop at s)
    long_enough = rw (length-drop at s) (omega arith)

    eighty : line_length (drop at s) ≡ 80 + line_length (drop 80 (drop at s))
    eighty = long_length 80 (drop at s) h long_enough

  -- there is none, and no CR LF after 80 bytes: the line is too long
  pub lf_none : LastLf s at at → at + 80 < length s → ends_there s at ≡ false → long_from s at ≡ long_at at
  lf_none g l f =
      let t = drop at s in
      let h = below g refl in
      let z = eighty h l in
      let n = long_enough h l in
      let c : CrLf (drop 80 t) 0 ≡ false = rw (get_or-drop 80 t 0 0, get_or-drop 80 t 1 0, byte_in 80, byte_in 81) f in
      let m : 0 < length (drop 80 t) = rw (length-drop 80 t) (omega arith) in
      let o = one_more (drop 80 t) m (rw (get_or-drop 80 t 0 0) (h 80 (omega arith))) c in
      long_first at t (lt-ltb longest_line (line_length t) (omega (arith, z, o)))

  -- CR LF after 80 bytes: the next line begins after it
  pub cr_found : ends_there s at ≡ true → long_from s at ≡ long_from s (at + 82)
  cr_found f =
      let c : CrLf (drop at s) 80 ≡ true = rw (byte_in 80, byte_in 81) f in
      rw (drop-drop 82 at s) at (past_cr (drop at s) 80 c (omega arith) true at)

-- ---- looking for the last LF, from the back: none stands from i on

pub record Scanned (s : List ℕ) (at i : ℕ) : Type 0 where
  pub low : at ≤ i
  pub high : i ≤ at + 81
  pub none : (j : ℕ) → i ≤ j → j < at + 81 → eqb (get_or s j 0) 10 ≡ false

module _ (s : List ℕ) (at : ℕ) where
  pub scan_start : (i : ℕ) → i ≡ at + 81 → Scanned s at i
  scan_start i e = record { low = omega arith; high = omega arith; none = λ j l h. absurd (omega arith) }

  pub scan_on : (i : ℕ) → Scanned s at i → at < i → (get_or s (i - 1) 0 ≡ 10 → ⊥) → Scanned s at (i - 1)
  scan_on i g l e =
      let high = g.high in
      record {
        low = omega arith;
        high = omega arith;
        none = λ j k h. by_case (λ q. eqb j (i - 1) ≡ q → eqb (get_or s j 0) 10 ≡ false) (eqb j (i - 1)) (λ _ f. rw (eqb-true j (i - 1) f) (ne_eqb (get_or s (i - 1) 0) 10 e))
            (λ _ f. g.none j (let z = eqb-false j (i - 1) f in omega (arith, z)) h) refl;
      }

  pub scan_found : (i : ℕ) → Scanned s at i → get_or s (i - 1) 0 ≡ 10 → LastLf s at i
  scan_found i g e = record { low = g.low; high = g.high; found = λ _. eq-eqb (get_or s (i - 1) 0) 10 e; none = g.none }

  pub scan_none : (i : ℕ) → Scanned s at i → i ≤ at → LastLf s at i
  scan_none i g l = record { low = g.low; high = g.high; found = λ k. absurd (omega arith); none = g.none }

-- ---- the next line

module _ (s : List ℕ) (at : ℕ) (l : at + 80 < length s) where
  pub next_after : (n : ℕ) → ends_there s at ≡ true → n ≡ at + 82 → NextLine s at n
  next_after n f e =
      let z = lf_in s (at + 81) (both_true (eqb (get_or s (at + 80) 0) 13) (eqb (get_or s (at + 81) 0) 10) f).1 in
      record { low = omega arith; high = omega (arith, z, e); on = λ _. rw e (cr_found s at f); long = λ k. absurd (omega arith) }

  pub next_by : (r : ℕ) → LastLf s at r → ends_there s at ≡ false → NextLine s at r
  next_by r g f =
      let high = g.high in
      record { low = g.low; high = omega (arith, high, l); on = λ h. lf_found s at g h; long = λ e. lf_none s at (rw e at g) l f }

-- the text ends within 80 bytes
pub text_ends : (s : List ℕ) (at : ℕ) → length s - at ≤ 80 → long_from s at ≡ all_short
text_ends s at l = few_bytes true at (drop at s) (rw (length-drop at s) l)
