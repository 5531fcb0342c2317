-- 02, T-14, "first expands each line to a row of actual ordinates": the lines of a body, and the row of a line by itself. Assumes nothing.
-- An ordinate y stands as the number y + 2^31; a missing one is 0.
use Rattle.std.specs.Prelude.{Bool, false, List, [], ◌∷◌, ℕ, ◌+◌, ltb, eqb, length}
use Rattle.terms.specs.Logic.{pick}
use Rattle.table_spec.specs.Frame.{longest_line}
use Rattle.table_spec.specs.Values.{Form, Spot, first, after, last_or}
use Rattle.table_spec.specs.Reading.{Tokens, over, fault, head, value, line, fresh, tokens, Says, adds, refuses, says, bare, dif_before, line_length}

-- ---- 1. the lines of a body, each with the LF that ends it; the end of the body also ends one

abbrev pub joined : ℕ → List (List ℕ) → List (List ℕ)
joined b [] = (b ∷ []) ∷ []
joined b (w ∷ ws) = (b ∷ w) ∷ ws

unfoldable pub lines : List ℕ → List (List ℕ)
lines [] = []
lines (b ∷ s) = pick (eqb b 10) ((b ∷ []) ∷ lines s) (joined b (lines s))

-- ---- 2. the row of a line

-- its points, each with the place of the value that gave it; then its end, and whether it ends in DIF form; or its first fault, number and place
pub data Row : Type 0 where
  point : ℕ → ℕ → Row → Row
  done : Bool → Row
  bad : ℕ → ℕ → Row

-- a line: blanks and a comment only; or refused before its head is read, number and place; or a head (its place, abscissa and unit) and a row
pub data Line : Type 0 where
  passed : Line
  unread : ℕ → ℕ → Line
  row : ℕ → ℕ → ℕ → Row → Line

-- the points of one value, all at its place, before others
abbrev pub points : ℕ → List ℕ → Row → Row
points a [] r = r
points a (u ∷ us) r = point a u (points a us r)

-- 01, "Meaning": a value stands for points, and the row goes on after them; or it is a fault
abbrev pub given : (Form → ℕ → Row) → ℕ → ℕ → Says → Row
given f a p (refuses c) = bad c a
given f a p (adds us r) = points a us (f r (last_or p us))

-- the values of a line, at a spot, after the ordinate p. They end with the line or with a fault; the body's end and a head, which do not stand among them, are taken for the line's end
unfoldable pub values : Tokens → Spot → ℕ → Row
values (over a) w p = done (dif_before w)
values (fault c a) w p = bad c a
values (head a h u r) w p = done (dif_before w)
values (value a v r) w p = given (λ f q. values r (after f) q) a p (says w p v)
values (line r) w p = done (dif_before w)

-- the row after a head at the place a: 7 if it has no value. By itself no line is a check line, so its first value is a point too
abbrev pub row_of : ℕ → Tokens → Row
row_of a r = pick (bare r) (bad 7 a) (values r (first false) 0)

-- the tokens of a line. A value or a line's end, which do not stand first, are passed over
unfoldable pub expand : Tokens → Line
expand (over a) = passed
expand (fault c a) = unread c a
expand (head a h u r) = row a h u (row_of a r)
expand (value a v r) = passed
expand (line r) = passed

-- a line that stands at the place a: one over 80 bytes is refused before it is expanded (02, T-06)
abbrev pub alone : Bool → ℕ → List ℕ → Line
alone tabs a w = pick (ltb longest_line (line_length w)) (unread 16 a) (expand (tokens tabs w 0 a fresh))

-- lines, expanded; the first of them stands at the place a
unfoldable pub expanded : Bool → ℕ → List (List ℕ) → List Line
expanded tabs a [] = []
expanded tabs a (w ∷ ws) = alone tabs a w ∷ expanded tabs (a + length w) ws

-- the rows of a body
abbrev pub rows : Bool → List ℕ → List Line
rows tabs s = expanded tabs 0 (lines s)
