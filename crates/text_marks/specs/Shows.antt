-- What the functions on values that are written in full ensure (02, T-02). Assumes nothing.
use Rattle.std.specs.Prelude.{◌≡◌, Bool, true, false, List, [], ◌∷◌, ◌++◌, ℕ, ◌+◌, ◌-◌, ◌≤◌, ◌<◌, leb, eqb, length}
use Rattle.terms.specs.Logic.{pick}
use Rattle.table_spec.specs.declared.Style.{Style}
use Rattle.table_spec.specs.declared.Style.TheVariants.{Affn, Pac, Sqz, Difdup}
use Rattle.table_spec.specs.Frame.{zero_ordinate}
use Rattle.table_text.specs.Pieces.{number}
use Rattle.text_marks.specs.declared.Marks.{Marks}

-- a byte, if there is to be one
abbrev pub mark : Bool → ℕ → List ℕ
mark on b = pick on (b ∷ []) []

-- a space and a minus where they are to be, and a number
unfoldable pub spelled : Bool → Bool → ℕ → ℕ → List ℕ
spelled space signed base size = mark space 32 ++ mark signed 45 ++ number base size

-- the marks of each form; DIFDUP writes in full what SQZ does
unfoldable pub marks_of : Style → Marks
marks_of Affn = record { gap = true; up = true; down = true; signed = true; plus = 48; minus = 48 }
marks_of Pac = record { gap = false; up = true; down = false; signed = true; plus = 48; minus = 48 }
marks_of Sqz = record { gap = false; up = false; down = false; signed = false; plus = 64; minus = 96 }
marks_of Difdup = record { gap = false; up = false; down = false; signed = false; plus = 64; minus = 96 }

-- what first digits are added to is a digit's byte or more, and no more than SQZ's
pub record Based (m : Marks) : Type 0 where
  pub plus_least : 48 ≤ m.plus
  pub plus : m.plus ≤ 96
  pub minus_least : 48 ≤ m.minus
  pub minus : m.minus ≤ 96

-- an ordinate in full, with these marks
unfoldable pub shown : Marks → ℕ → List ℕ
shown m u =
    pick (eqb u 0) (spelled m.gap false 63 0)
    (pick (leb zero_ordinate u) (spelled m.up false m.plus (u - zero_ordinate)) (spelled m.down m.signed m.minus (zero_ordinate - u)))

-- a value of these parts stands from a place to the next, within the bytes that are lent
pub record Stands (space signed : Bool) (base size at next room : ℕ) : Type 0 where
  pub least : 48 ≤ base
  pub most : base ≤ 105
  pub small : size < 4294967296
  pub ends : next ≡ at + length (spelled space signed base size)
  pub lent : next ≤ room
