-- A body is its lines. Assumes nothing.
use Rattle.std.specs.Prelude.{◌≡◌, refl, false, List, [], ◌∷◌, ◌++◌, ℕ, suc, ◌+◌, eqb, length}
use Rattle.std.proofs.Common.{arith, eqb-true}
use Rattle.terms.specs.Logic.{by_case}
use Rattle.line_law.specs.Linewise.{NoLf}
use Rattle.plain_spec.specs.Rows.{lines}
use Rattle.plain_law.specs.Single.{Single}

-- nothing; a last line without LF; or a line with its LF, and then others
pub data Cut : List ℕ → Type 0 where
  no_line : Cut []
  end_line : (b : ℕ) (w : List ℕ) → NoLf (b ∷ w) → Cut (b ∷ w)
  whole_line : (w s : List ℕ) → NoLf w → Cut s → Cut (w ++ 10 ∷ s)

longer : (b : ℕ) (s : List ℕ) → eqb b 10 ≡ false → Cut s → Cut (b ∷ s)
longer b [] e no_line = end_line b [] (e, tt)
longer b (c ∷ w) e (end_line c' w' h) = end_line b (c ∷ w) (e, h)
longer b s e (whole_line w t h k) = whole_line (b ∷ w) t (e, h) k

pub cut : (s : List ℕ) → Cut s
cut [] = no_line
cut (b ∷ s) = by_case (λ t. eqb b 10 ≡ t → Cut (b ∷ s)) (eqb b 10) (λ _ e. rw (eqb-true b 10 e) (whole_line [] s tt (cut s))) (λ _ e. longer b s e (cut s)) refl

pub lines_whole : (w s : List ℕ) → NoLf w → lines (w ++ 10 ∷ s) ≡ (w ++ 10 ∷ []) ∷ lines s
unfolding lines
lines_whole [] s h = refl
lines_whole (b ∷ w) s h = rw (h.0, lines_whole w s h.1) refl

pub lines_last : (b : ℕ) (w : List ℕ) → NoLf (b ∷ w) → lines (b ∷ w) ≡ (b ∷ w) ∷ []
unfolding lines
lines_last b [] h = rw h.0 refl
lines_last b (c ∷ w) h = rw (h.0, lines_last c w h.1) refl

pub single_whole : (w : List ℕ) → NoLf w → Single (w ++ 10 ∷ [])
single_whole [] h = tt
single_whole (b ∷ []) h = (h.0, tt)
single_whole (b ∷ c ∷ w) h = (h.0, single_whole (c ∷ w) h.1)

pub single_last : (w : List ℕ) → NoLf w → Single w
single_last [] h = tt
single_last (b ∷ []) h = tt
single_last (b ∷ c ∷ w) h = (h.0, single_last (c ∷ w) h.1)

pub length_whole : (w s : List ℕ) → length (w ++ 10 ∷ s) ≡ suc (length w) + length s
length_whole [] s = omega arith
length_whole (b ∷ w) s = let z = length_whole w s in omega arith
