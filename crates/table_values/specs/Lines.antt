-- The state of the code along a line and between lines, and what the functions on the values of a line ensure. Assumes nothing.
use Rattle.std.specs.Prelude.{◌≡◌, Bool, true, List, map, ℕ, ◌+◌, ◌<◌, ◌≤◌, leb, eqb, ℤ, length, Some, Result, Ok, Err}
use Rattle.std.proofs.lemmas.List.Edits.{sets}
use Rattle.terms.specs.Logic.{pick}
use Rattle.alphabet_spec.specs.Entries.{entry_at}
use Rattle.table_spec.specs.Frame.{entry_for}
use Rattle.table_spec.specs.Values.{Spot, first, after}
use Rattle.table_spec.specs.Reading.{line, fresh, dif_before}
use Rattle.table_lines.specs.Seen.{seen, here}
use Rattle.table_lines.specs.Ends.{end_at}
use Rattle.table_numbers.specs.Numbers.{Clear}
use Rattle.table_value.specs.LineValues.{whole, broken, line_says}
use Rattle.table_value.specs.declared.Cur.{Cur}
use Rattle.table_values.specs.declared.Row.{Row}
use Rattle.table_value.specs.States.{Holds}
use Rattle.terms.specs.declared.Fault.{Fault}

-- is a form, as the code keeps it, DIF?
abbrev pub dif_form : ℕ → Bool
dif_form form = pick (eqb form 1) true (leb 32 form)

-- a state at another place
abbrev pub placed : Cur → ℕ → Cur
placed c j = record { at = j; k = c.k; q = c.q; want = c.want; step = c.step; form = c.form }

-- a line's values may be read from the place `at` on, with k points given, within a table of at most 65,536 points
pub record FirstValue (N : ℕ) (s : List ℕ) (at k : ℕ) : Type 0 where
  pub most : N ≤ 65536
  pub some : 0 < at
  pub high : at ≤ length s
  pub few : k ≤ N

-- the line that goes on at the place i ends at `stop`, the first place with a line's end, a comment or a byte that cannot stand there, and the next one begins at j
pub record LineEnds (s : List ℕ) (i j : ℕ) : Type 0 where
  pub stop : ℕ
  pub low : i ≤ stop
  pub clear : Clear s i stop
  pub ends : 160 ≤ entry_at s stop
  pub next : end_at s stop ≡ Some j

-- the state after a line, from the last one within it
abbrev pub row_after : Cur → ℕ → Row
row_after c j = record { at = j; k = c.k; q = c.q; dif = dif_form c.form }

-- the ordinate that the code keeps between lines: that of the last value, 0 for a missing one, or if there was none
abbrev pub last_at : Spot → ℕ → ℕ
last_at (first c) p = 0
last_at (after f) p = p

-- the values of a line from the place i on, with k points given, after the ordinate p, at the spot w: their points were stored, and the state after the line keeps the last one and its form
pub record LineDone (N : ℕ) (s : List ℕ) (i k p : ℕ) (w : Spot) (out out' : List ℤ) (r : Row) : Type 0 where
  pub points : List ℕ
  pub ordinate : ℕ
  pub spot : Spot
  pub law : line_says N (here s i) k p w ≡ whole points ordinate spot (line (seen s r.at fresh))
  pub stored : out' ≡ sets out k (map entry_for points)
  pub count : r.k ≡ k + length points
  pub last : r.q ≡ last_at spot ordinate
  pub form : r.dif ≡ dif_before spot
  pub some : r.dif ≡ true → 0 < r.q

-- or one of them is refused: the points of those before it were stored
pub record LineBroken (N : ℕ) (s : List ℕ) (i k p : ℕ) (w : Spot) (out out' : List ℤ) (n a : ℕ) : Type 0 where
  pub points : List ℕ
  pub law : line_says N (here s i) k p w ≡ broken points n a
  pub stored : out' ≡ sets out k (map entry_for points)

-- what holds for each ordinate before and spot at a line's start, where the first value must equal `want` (0: not asked)
abbrev pub Starts : ℕ → (ℕ → Spot → Type 0) → Type 0
Starts want P = (p : ℕ) (w : Spot) → Holds 0 want 0 0 p w → P p w

-- all values of a line: r is the state after it
pub record LineWhole (N : ℕ) (s : List ℕ) (i k want : ℕ) (out out' : List ℤ) (r : Row) : Type 0 where
  pub low : i ≤ r.at
  pub high : r.at ≤ length s
  pub small : r.q < 4294967296
  pub few : r.k ≤ N
  pub ends : LineEnds s i r.at
  pub done : Starts want (λ p w. LineDone N s i k p w out out' r)

-- the values of a line: the state after it, or a refusal and its place
abbrev pub Lined : ℕ → List ℕ → ℕ → ℕ → ℕ → List ℤ → List ℤ → Result Row Fault → Type 0
Lined N s i k want out out' (Ok r) = LineWhole N s i k want out out' r
Lined N s i k want out out' (Err x) = Starts want (λ p w. LineBroken N s i k p w out out' x.number x.place)
