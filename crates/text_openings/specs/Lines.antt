-- The written text from a point on, and what the functions on lines ensure (01, "The written text"). Assumes nothing.
use Rattle.std.specs.Prelude.{◌≡◌, Bool, true, false, List, ◌∷◌, ◌++◌, ℕ, ◌+◌, ◌-◌, ◌*◌, ◌≤◌, ◌<◌, ℤ, length, get_or, drop}
use Rattle.terms.specs.Logic.{pick}
use Rattle.table_spec.specs.Writing.{check, text}
use Rattle.frame.specs.declared.Frame.{Frame}
use Rattle.frame.specs.Legal.{Sound}
use Rattle.text_tokens.specs.declared.Group.{Group}
use Rattle.text_openings.specs.declared.State.{State}
use Rattle.table_text.specs.Pieces.{Put, Ahead}
use Rattle.text_tokens.specs.Tokens.{count_at, group_at, dif_at}
use Rattle.table_spec.specs.declared.Style.TheVariants.{Difdup}

module _ (head_of : ℕ → List ℕ) where
  -- what is left to write in a state
  unfoldable pub from : List ℕ → State → List ℕ
  from ys s = text Difdup head_of (drop s.given ys) 0 s.given s.last s.dif s.column

  -- the state after the group at i after p
  abbrev pub next_state : List ℕ → ℕ → ℕ → ℕ → ℕ → State
  next_state ys i p at column =
      record { given = i + count_at ys i p + 1; at = at; column = column + length (group_at ys i p); last = get_or ys (i + count_at ys i p) 0; dif = dif_at ys i p }

  -- the group at i after p, whatever room there is, and what is left then
  unfoldable pub after : List ℕ → ℕ → ℕ → ℕ → List ℕ
  after ys i p column = group_at ys i p ++ from ys (next_state ys i p 0 column)

  -- the start of a line
  abbrev pub opening : Bool → ℕ → ℕ → List ℕ
  opening dif i p = pick dif (check Difdup head_of i p) (head_of i)

-- a last form that is DIF has a point before it; ordinates have 32 bits
pub record Started (s : State) : Type 0 where
  pub some : s.dif ≡ true → 0 < s.given
  pub small : s.last < 4294967296

-- points are left to write in a sound frame, the entries are its points, and the place is below `far`
pub record PointsLeft (far : ℕ) (fr : Frame) (es : List ℤ) (s : State) : Type 0 where
  pub sound : Sound fr
  pub all : length es ≡ fr.points
  pub started : Started s
  pub some : s.given < length es
  pub near : s.at < far

-- points can be counted on from the state: the entries are no more than a table has, and the place is below `far`
pub record Countable (far : ℕ) (es : List ℤ) (s : State) : Type 0 where
  pub started : Started s
  pub few : length es ≤ 65536
  pub column_most : s.column ≤ s.at
  pub near : s.at < far

-- the state after the start of a new line, at the place b
abbrev pub line_state : State → ℕ → State
line_state s b = record { given = s.given; at = b; column = b - (s.at + 2); last = pick s.dif s.last 0; dif = s.dif }

-- the state after the group g
abbrev pub group_state : List ℕ → State → Group → State
group_state ys s g = record { given = s.given + g.more + 1; at = s.at + g.width; column = s.column + g.width; last = get_or ys (s.given + g.more) 0; dif = g.dif }

-- the start of a new line was stored, and the state is that after it
pub record NewLine (head_of : ℕ → List ℕ) (s : State) (o o' : List ℕ) (r : State) : Type 0 where
  pub is : r ≡ line_state s r.at
  pub put : Put o s.at o' r.at (13 ∷ 10 ∷ opening head_of s.dif s.given s.last)
  pub most : r.at ≤ s.at + 27
  pub column_most : r.column ≤ r.at

-- some text was written, and the state is that after it: t was left before, at the place `at`, after i points
pub record Wrote (head_of : ℕ → List ℕ) (ys : List ℕ) (i at : ℕ) (t o o' : List ℕ) (s : State) : Type 0 where
  pub law : (x : List ℕ) (n : ℕ) → Ahead x n o at t → Ahead x n o' s.at (from head_of ys s)
  pub same : length o' ≡ length o
  pub on : i < s.given
  pub inside : s.given ≤ length ys
  pub most : s.at + 64 * i ≤ at + 64 * s.given
  pub column_most : s.column ≤ s.at
  pub small : s.last < 4294967296

-- groups were counted from the state s on: r is the state after them, and what is left ends at the same place
pub record Counted (ys : List ℕ) (s r : State) : Type 0 where
  pub law : (hd : ℕ → List ℕ) → r.at + length (from hd ys r) ≡ s.at + length (from hd ys s)
  pub later : s.at ≤ r.at
  pub on : s.given ≤ r.given
  pub inside : r.given ≤ length ys
  pub most : r.at + 20 * s.given ≤ s.at + 20 * r.given
  pub line : r.column + s.at ≡ s.column + r.at
  pub column_most : r.column ≤ r.at
  pub started : Started r

-- the next group after them, if there is one, does not fit on the line; one at least was counted if the line was short
pub record Full (ys : List ℕ) (s r : State) : Type 0 where
  pub breaks : r.given < length ys → 80 < r.column + length (group_at ys r.given r.last)
  pub some : s.given < length ys → s.column ≤ 60 → s.given < r.given

-- the state after the first head
abbrev pub start : ℕ → State
start n = record { given = 0; at = n; column = n; last = 0; dif = false }

-- the state after differences on one line, with i points given, the last of them p
abbrev pub difference_state : State → ℕ → ℕ → ℕ → State
difference_state s i p column = record { given = i; at = s.at + (column - s.column); column = column; last = p; dif = true }

-- what the pass keeps, from the state where its loop began
pub record Going (head_of : ℕ → List ℕ) (ys o₀ : List ℕ) (s₀ : State) (o : List ℕ) (s : State) (i : ℕ) : Type 0 where
  pub is : i ≡ s.given
  pub law : (x : List ℕ) (n : ℕ) → Ahead x n o₀ s₀.at (from head_of ys s₀) → Ahead x n o s.at (from head_of ys s)
  pub same : length o ≡ length o₀
  pub inside : s.given ≤ length ys
  pub most : s.at ≤ 64 * s.given + 64
  pub column_most : s.column ≤ s.at
  pub started : Started s
