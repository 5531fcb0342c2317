-- The text from a value on, and what the functions on lines ensure (02, T-02). Assumes nothing.
use Rattle.std.specs.Prelude.{◌≡◌, List, [], ◌++◌, ℕ, ◌+◌, ◌-◌, ◌*◌, ◌^◌, ◌≤◌, ◌<◌, ltb, length, get_or, drop}
use Rattle.terms.specs.Logic.{pick}
use Rattle.table_write_law.specs.Plain.{values}
use Rattle.frame.specs.declared.Frame.{Frame}
use Rattle.table_text.specs.Pieces.{Ahead, head_of}
use Rattle.text_marks.specs.declared.Marks.{Marks}
use Rattle.text_value_lines.specs.declared.State.{State}
use Rattle.text_marks.specs.Shows.{shown}

-- the whole text that a form's marks make: the first head, and the values
abbrev pub whole : Marks → Frame → List ℕ → List ℕ
whole m fr ys = head_of fr 0 ++ values (shown m) (head_of fr) ys 0 (length (head_of fr 0))

-- a line that has its head and no value yet: one of the n ordinates is left, and the place is far from the largest number
pub record Opened (n : ℕ) (s : State) : Type 0 where
  pub few : n ≤ 65536
  pub left : s.given < n
  pub near : s.at < 2 ^ 57
  pub column : s.column ≤ s.at
  pub short : s.column ≤ 15

-- the text of a value, and the head of a point
module _ (shown : ℕ → List ℕ) (hd : ℕ → List ℕ) where
  -- what is left to write after i points, with some bytes on the line
  unfoldable pub from : List ℕ → ℕ → ℕ → List ℕ
  from ys i column = values shown hd (drop i ys) i column

  -- what is left to write after i points, at the start of a line
  unfoldable pub lines_left : List ℕ → ℕ → List ℕ
  lines_left ys i = pick (ltb i (length ys)) (hd i ++ from ys i (length (hd i))) []

  -- what the pass keeps, a line at a time
  pub record Going (ys o₀ o : List ℕ) (i at : ℕ) : Type 0 where
    pub law : (x : List ℕ) (n : ℕ) → Ahead x n o₀ 0 (lines_left ys 0) → Ahead x n o at (lines_left ys i)
    pub same : length o ≡ length o₀
    pub inside : i ≤ length ys
    pub most : at ≤ 97 * i

-- the text of a value; a line's values do not hang on the heads of later lines
module _ (shown : ℕ → List ℕ) where
  -- what is left to write, whatever the heads, is lent
  pub record Room (ys : List ℕ) (s : State) (room : ℕ) : Type 0 where
    pub heads : ℕ → List ℕ
    pub lent : s.at + length (from shown heads ys s.given s.column) ≤ room

  -- the values that fit on the line were written, and r is the state after them
  pub record Filled (ys : List ℕ) (s : State) (o o' : List ℕ) (r : State) : Type 0 where
    pub law : (hd : ℕ → List ℕ) (x : List ℕ) (n : ℕ) → Ahead x n o s.at (from shown hd ys s.given s.column) → Ahead x n o' r.at (from shown hd ys r.given r.column)
    pub same : length o' ≡ length o
    pub on : s.given < r.given
    pub inside : r.given ≤ length ys
    pub most : r.at ≤ s.at + 80
    pub full : r.given < length ys → 80 < r.column + length (shown (get_or ys r.given 0))

  -- what the loop over the values of a line keeps, from the value and the place where it began; the line starts at another
  pub record Filling (ys : List ℕ) (i₀ at₀ line : ℕ) (o₀ o : List ℕ) (i at : ℕ) : Type 0 where
    pub law : (hd : ℕ → List ℕ) (x : List ℕ) (n : ℕ) → Ahead x n o₀ at₀ (from shown hd ys i₀ (at₀ - line)) → Ahead x n o at (from shown hd ys i (at - line))
    pub same : length o ≡ length o₀
    pub since : i₀ ≤ i
    pub inside : i ≤ length ys
    pub behind : line ≤ at
    pub within : at ≤ line + 80
    pub unmoved : i ≡ i₀ → at ≡ at₀
