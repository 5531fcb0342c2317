-- What is promised of the bytes before the place of a refusal (01, "Refusal numbers"): some table begins with them, or they are one of two exceptions. It defines, and proves nothing. Assumes nothing.
-- `Spells` has no limit on a body's length: the table that begins with them may be longer than a body can be.
use Rattle.std.specs.Prelude.{◌≡◌, Bool, true, false, List, [], ◌∷◌, ◌++◌, ℕ, ◌+◌, ◌≤◌, ◌<◌, length}
use Rattle.table_spec.specs.Frame.{Rules, longest_line}
use Rattle.table_spec.specs.Values.{last_or}
use Rattle.table_spec.specs.Groups.{sqz_text}
use Rattle.table_law.specs.Spelling.{Body, Short, Spells}
use Rattle.table_write_law.specs.Tokens.{Passing}
use Rattle.place_on.specs.HeadOnly.{HeadOnly}

-- ---- of which rules

-- a head's text that passes for the index j, before any text. It leaves 10 of a line's 80 bytes, as many as the longest ordinate needs as SQZ
pub record HeadFor (R : Rules) (j : ℕ) : Type 0 where
  -- its abscissa
  pub place : ℕ
  pub text : List ℕ
  pub fits : length text ≤ 70
  pub passing : (s : List ℕ) → Passing R j place (text ++ s) s

-- 01, "The frame of a table": at least one point, and each of them has a head
pub record Writable (R : Rules) : Type 0 where
  pub some_point : 1 ≤ R.points
  pub head_for : (j : ℕ) → j < R.points → HeadFor R j

-- ---- of which refusals

-- the numbers that the first value of a line can get, and what stands in its place; true: of a check line
pub data AfterHead : Bool → ℕ → Type 0 where
  is_3 : {due : Bool} → AfterHead due 3
  is_5 : {due : Bool} → AfterHead due 5
  is_8 : {due : Bool} → AfterHead due 8
  is_9 : {due : Bool} → AfterHead due 9
  is_10 : AfterHead true 10
  is_11 : AfterHead false 11

-- the others from 3 on: they stand before a head, at one, at a body's end or at a line's start
pub data Elsewhere : ℕ → Type 0 where
  is_4 : Elsewhere 4
  is_6 : Elsewhere 6
  is_7 : Elsewhere 7
  is_12 : Elsewhere 12
  is_13 : Elsewhere 13
  is_16 : Elsewhere 16

-- ---- of the bytes x

-- some table begins with them
abbrev pub CanStay : Rules → List ℕ → Type 0
CanStay R x = (t : List ℕ) × (ys : List ℕ) × Spells R ys (x ++ t)

-- no table begins with them
abbrev pub NoneBegins : Rules → List ℕ → Type 0
NoneBegins R x = (t ys : List ℕ) → Spells R ys (x ++ t) → ⊥

-- whole lines: no byte, or the last one is an LF
pub data WholeLines : List ℕ → Type 0 where
  no_lines : WholeLines []
  last_lf : (w : List ℕ) → WholeLines (w ++ 10 ∷ [])

-- they are whole lines and then blanks, a head, blanks: nothing but the head of a line stands before the place
pub record HeadLost (R : Rules) (x kept lost : List ℕ) : Type 0 where
  pub bytes : x ≡ kept ++ lost
  pub lines : WholeLines kept
  pub head : HeadOnly R.tabs lost

-- lines give these points, and a check line is due after them
pub record CheckDue (R : Rules) (kept given : List ℕ) : Type 0 where
  -- what goes on from these points, the last of them to be checked, in short lines, makes a table behind the lines
  pub onward : (zs u : List ℕ) → Body R (length given) (last_or 0 given) true zs u → Short longest_line u → Spells R (given ++ zs) (kept ++ u)
  -- and nothing else does
  pub back : (ys u : List ℕ) → Spells R ys (kept ++ u) → (zs : List ℕ) × (ys ≡ given ++ zs) × Body R (length given) (last_or 0 given) true zs u × Short longest_line u

-- THE FIRST EXCEPTION, the table was full: a head after N points is blamed at its first value
pub record Full (R : Rules) (x : List ℕ) : Type 0 where
  -- the lines before the head, and the head with its blanks
  pub kept : List ℕ
  pub lost : List ℕ
  pub parts : HeadLost R x kept lost
  -- the lines before the head are a whole table
  pub ordinates : List ℕ
  pub table : Spells R ordinates kept
  -- with the head there is none
  pub none : NoneBegins R x

-- THE SECOND EXCEPTION, the line is too narrow: after the head of a check line there is too little room for the ordinate (02, T-06)
pub record Narrow (R : Rules) (x : List ℕ) : Type 0 where
  -- the lines before the head, and the head with its blanks
  pub kept : List ℕ
  pub lost : List ℕ
  pub parts : HeadLost R x kept lost
  -- the points of the lines before the head; a check is due on the last of them
  pub given : List ℕ
  pub due : CheckDue R kept given
  -- the head, the blanks and that ordinate as SQZ, which is its shortest spelling, have more than 80 bytes
  pub tight : longest_line < length lost + length (sqz_text (last_or 0 given))
  -- the lines before the head can stay
  pub kept_stays : CanStay R kept
  -- with the head they cannot
  pub none : NoneBegins R x

-- THE PROMISE, for the bytes before the place of a refusal with the number c
pub data Before (R : Rules) (c : ℕ) (x : List ℕ) : Type 0 where
  can_stay : CanStay R x → Before R c x
  but_full : AfterHead false c → Full R x → Before R c x
  but_narrow : AfterHead true c → Narrow R x → Before R c x
