-- How long the written text is at most in each of the four forms (02, T-02): 15 bytes for each point and 44 more, so never longer than a body may be. Assumes nothing.
-- A line that is full has at least five points on it. In DIFDUP a point pays 10 bytes for its token and 5 towards the next line's end, head and check value; in the others 12 and 3.
use Rattle.std.specs.Prelude.{◌≡◌, refl}
use Rattle.std.proofs.Math.Bool.{true}
use mathlib.Core.List.{List, [], ◌∷◌}
use Prim.Native.Nat.{ℕ, ◌+◌, ◌*◌, ◌≤◌, ◌<◌}
use native.Mathlib.Omega.{arith}
use Rattle.std.proofs.Math.ListN.{length}
use Rattle.table_spec.specs.Frame.{nearest, longest_body}
use Rattle.table_spec.specs.Numerals.{head_text}
use Rattle.table_spec.specs.Writing.{written}
use Rattle.table_write_law.proofs.Abscissas.{nearest_range}
use Rattle.table_write_law.specs.Heads.{head_length}
use Rattle.table_write_law.proofs.Written.{Takes}
use Rattle.table_spec.specs.declared.Style.{Style}
use Rattle.table_spec.specs.declared.Style.TheVariants.{Affn, Pac, Sqz, Difdup}
use Rattle.table_spec.specs.Groups.{in_full}
use Rattle.table_write_law.specs.Lengths.{lines_most, one_most, plain_lines_most}

-- ---- the text of a frame that the writer takes

-- a written head
pub head_most : (first last n : ℕ) → Takes first last n → (i : ℕ) → i < n → length (head_text (nearest first last n i)) ≤ 12
head_most first last n t i l =
    let low_first = t.low_first in let low_last = t.low_last in let high_first = t.high_first in let high_last = t.high_last in
    let z = nearest_range first last n i 1 19999999999 l (omega arith) (omega arith) (omega arith) (omega arith) in
    head_length (nearest first last n i) (omega (arith, z.0)) (omega (arith, z.1))

-- "Each value is written in full": 15 bytes a point and 17 more
pub plain_written_most : (st : Style) → in_full st ≡ true → (first last n : ℕ) (ys : List ℕ) → Takes first last n → length ys ≡ n → length (written st first last n ys) ≤ 15 * n + 17
unfolding written
plain_written_most st full first last n ys t e = plain_lines_most st full n (λ i. head_text (nearest first last n i)) (head_most first last n t) ys e

difdup_written_most : (first last n : ℕ) (ys : List ℕ) → Takes first last n → length ys ≡ n → length (written Difdup first last n ys) ≤ 15 * n + 44
unfolding written
difdup_written_most first last n ys t e = lines_most n t.few (λ i. head_text (nearest first last n i)) (head_most first last n t) ys e

-- one bound for the four forms
pub written_most : (st : Style) (first last n : ℕ) (ys : List ℕ) → Takes first last n → length ys ≡ n → length (written st first last n ys) ≤ 15 * n + 44
written_most Affn first last n ys t e = omega (arith, plain_written_most Affn refl first last n ys t e)
written_most Pac first last n ys t e = omega (arith, plain_written_most Pac refl first last n ys t e)
written_most Sqz first last n ys t e = omega (arith, plain_written_most Sqz refl first last n ys t e)
written_most Difdup first last n ys t e = difdup_written_most first last n ys t e

-- a ceiling that holds from one point on: 34 bytes for each and 24 more
pub written_ceiling : (st : Style) (first last n : ℕ) (ys : List ℕ) → Takes first last n → length ys ≡ n → length (written st first last n ys) ≤ 34 * n + 24
written_ceiling Affn first last n ys t e = omega (arith, plain_written_most Affn refl first last n ys t e)
written_ceiling Pac first last n ys t e = omega (arith, plain_written_most Pac refl first last n ys t e)
written_ceiling Sqz first last n ys t e = omega (arith, plain_written_most Sqz refl first last n ys t e)
written_ceiling Difdup first last n ys t e = ceiling ys e
  where
    ceiling : (ys : List ℕ) → length ys ≡ n → length (written Difdup first last n ys) ≤ 34 * n + 24
    ceiling [] e = let some = t.some in absurd (omega arith)
    ceiling (y ∷ []) e = unfold written in
        omega (arith, one_most n t.few (λ i. head_text (nearest first last n i)) (λ i l. head_most first last n t i l) y t.some)
    ceiling (y ∷ z ∷ ys) e = omega (arith, written_most Difdup first last n (y ∷ z ∷ ys) t e)

-- a written body is never longer than a body may be
pub written_is_a_body : (st : Style) (first last n : ℕ) (ys : List ℕ) → Takes first last n → length ys ≡ n → length (written st first last n ys) ≤ longest_body
written_is_a_body st first last n ys t e = let few = t.few in omega (arith, written_most st first last n ys t e)
