-- Laws about line and column: how they go on by one byte, at the text's end, that they follow from the text before the place alone, and how they shift. Assumes nothing.
use Rattle.std.specs.Prelude.{◌≡◌, refl, Bool, true, false, List, [], ◌∷◌, ◌++◌, ℕ, zero, suc, ◌+◌, ◌≤◌, ◌<◌, eqb, length, get_or, take}
use Rattle.std.proofs.Common.{arith, not-suc-le-zero, le_of_suc-le-suc, zero-add}
use Rattle.terms.specs.Logic.{pick, by_case}
use Rattle.terms.specs.Places.{line_of, column_after}

-- ---- one byte more

later_later : (t u : Bool) (n : ℕ) → pick t (suc (pick u (suc n) n)) (pick u (suc n) n) ≡ pick u (suc (pick t (suc n) n)) (pick t (suc n) n)
later_later true true n = refl
later_later true false n = refl
later_later false true n = refl
later_later false false n = refl

pub line_start : (s : List ℕ) → line_of s 0 ≡ 1
unfolding line_of
line_start [] = refl
line_start (b ∷ s) = refl

pub line_next : (s : List ℕ) (a : ℕ) → a < length s → line_of s (suc a) ≡ pick (eqb (get_or s a 0) 10) (suc (line_of s a)) (line_of s a)
unfolding line_of
line_next [] a h = absurd (not-suc-le-zero h)
line_next (b ∷ s) zero h = rw (line_start s) refl
line_next (b ∷ s) (suc a) h = rw (line_next s a (le_of_suc-le-suc h)) (later_later (eqb b 10) (eqb (get_or s a 0) 10) (line_of s a))

pub column_start : (c : ℕ) (s : List ℕ) → column_after c s 0 ≡ c
unfolding column_after
column_start c [] = refl
column_start c (b ∷ s) = refl

pub column_next : (c : ℕ) (s : List ℕ) (a : ℕ) → a < length s → column_after c s (suc a) ≡ pick (eqb (get_or s a 0) 10) 1 (suc (column_after c s a))
unfolding column_after
column_next c [] a h = absurd (not-suc-le-zero h)
column_next c (b ∷ s) zero h = column_start (pick (eqb b 10) 1 (suc c)) s
column_next c (b ∷ s) (suc a) h = column_next (pick (eqb b 10) 1 (suc c)) s a (le_of_suc-le-suc h)

-- ---- a place past the end has the line and the column of the end

pub line_end : (s : List ℕ) (a : ℕ) → length s ≤ a → line_of s a ≡ line_of s (length s)
unfolding line_of
line_end [] a h = refl
line_end (b ∷ s) zero h = absurd (not-suc-le-zero h)
line_end (b ∷ s) (suc a) h = rw (line_end s a (le_of_suc-le-suc h)) refl

pub column_end : (c : ℕ) (s : List ℕ) (a : ℕ) → length s ≤ a → column_after c s a ≡ column_after c s (length s)
unfolding column_after
column_end c [] a h = refl
column_end c (b ∷ s) zero h = absurd (not-suc-le-zero h)
column_end c (b ∷ s) (suc a) h = column_end (pick (eqb b 10) 1 (suc c)) s a (le_of_suc-le-suc h)

-- ---- line and column follow from the text before the place alone

pub line_before : (s : List ℕ) (a : ℕ) → line_of (take a s) a ≡ line_of s a
unfolding line_of
line_before [] zero = refl
line_before [] (suc a) = refl
line_before (b ∷ s) zero = refl
line_before (b ∷ s) (suc a) = rw (line_before s a) refl

pub column_before : (c : ℕ) (s : List ℕ) (a : ℕ) → column_after c (take a s) a ≡ column_after c s a
unfolding column_after
column_before c [] zero = refl
column_before c [] (suc a) = refl
column_before c (b ∷ s) zero = refl
column_before c (b ∷ s) (suc a) = column_before (pick (eqb b 10) 1 (suc c)) s a

-- ---- a text that stands after another: lines go on from the line where it starts, columns from that column

pub line_shift : (t s : List ℕ) (a : ℕ) → suc (line_of (t ++ s) (length t + a)) ≡ line_of t (length t) + line_of s a
unfolding line_of
line_shift [] s a = let e = zero-add a in rw e (omega arith)
line_shift (b ∷ t) s a =
    let e : length (b ∷ t) + a ≡ suc (length t + a) = omega arith in
    rw e (by_case (λ q. suc (pick q (suc (line_of (t ++ s) (length t + a))) (line_of (t ++ s) (length t + a))) ≡ pick q (suc (line_of t (length t))) (line_of t (length t)) + line_of s a) (eqb b 10)
    (λ _. let z = line_shift t s a in omega arith) (λ _. line_shift t s a))

pub column_shift : (c : ℕ) (t s : List ℕ) (a : ℕ) → column_after c (t ++ s) (length t + a) ≡ column_after (column_after c t (length t)) s a
unfolding column_after
column_shift c [] s a = rw (zero-add a) refl
column_shift c (b ∷ t) s a = let e : length (b ∷ t) + a ≡ suc (length t + a) = omega arith in rw e (column_shift (pick (eqb b 10) 1 (suc c)) t s a)

-- ---- how far they go

pub line_most : (s : List ℕ) (a : ℕ) → line_of s a ≤ suc a
unfolding line_of
line_most [] a = omega arith
line_most (b ∷ s) zero = omega arith
line_most (b ∷ s) (suc a) = by_case (λ q. pick q (suc (line_of s a)) (line_of s a) ≤ suc (suc a)) (eqb b 10) (λ _. omega (arith, line_most s a)) (λ _. omega (arith, line_most s a))

pub column_most : (c : ℕ) (s : List ℕ) (a : ℕ) → 1 ≤ c → column_after c s a ≤ c + a
unfolding column_after
column_most c [] a h = omega arith
column_most c (b ∷ s) zero h = omega arith
column_most c (b ∷ s) (suc a) h =
    by_case (λ q. column_after (pick q 1 (suc c)) s a ≤ c + suc a) (eqb b 10) (λ _. omega (arith, column_most 1 s a (omega arith))) (λ _. omega (arith, column_most (suc c) s a (omega arith)))
