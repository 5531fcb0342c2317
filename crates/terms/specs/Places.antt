-- Places in a text (02, T-01): the line and the column where an editor shows a place, both from 1. LF ends a line; columns count bytes. Assumes nothing.
use Rattle.std.specs.Prelude.{◌≡◌, refl, List, [], ◌∷◌, ℕ, zero, suc, ◌<◌, ltb, eqb, length, get_or}
use Rattle.std.proofs.Common.{arith, ltb-true, ltb-false}
use Rattle.std.proofs.Math.ListN.{get_or-eq_default}
use Rattle.terms.specs.Logic.{pick, by_case}

-- the line of a place: 1, and one more for each LF among the bytes before it
unfoldable pub line_of : List ℕ → ℕ → ℕ
line_of [] a = 1
line_of (b ∷ s) zero = 1
line_of (b ∷ s) (suc a) = pick (eqb b 10) (suc (line_of s a)) (line_of s a)

-- the column of a place, where the text before s ends in column c: one more for each byte before the place, and 1 again after an LF
unfoldable pub column_after : ℕ → List ℕ → ℕ → ℕ
column_after c [] a = c
column_after c (b ∷ s) zero = c
column_after c (b ∷ s) (suc a) = column_after (pick (eqb b 10) 1 (suc c)) s a

abbrev pub column_of : List ℕ → ℕ → ℕ
column_of s a = column_after 1 s a

-- where a byte that is not 0 stands, the text is not over
pub inside : (s : List ℕ) (i b : ℕ) → get_or s i 0 ≡ b → 0 < b → i < length s
inside s i b e h =
    by_case (λ t. ltb i (length s) ≡ t → i < length s) (ltb i (length s)) (λ _ q. ltb-true i (length s) q)
    (λ _ q. absurd (omega (arith, get_or-eq_default s 0 (ltb-false i (length s) q)))) refl
