-- The written text: which groups go on which line (01, "The written text"), and the writer's refusals. How a value is spelled is said in Groups. Assumes nothing.
use Rattle.std.specs.Prelude.{Bool, true, false, List, [], ◌∷◌, ◌++◌, map, ℕ, zero, suc, ◌+◌, ◌-◌, ltb, leb, ℤ, length, take}
use Rattle.std.proofs.lemmas.List.Edits.{sets}
use Rattle.terms.specs.Logic.{pick}
use Rattle.table_spec.specs.Frame.{longest_line, frame_legal, abscissa, ordinate_of, nearest}
use Rattle.table_spec.specs.Values.{is_dif}
use Rattle.table_spec.specs.Numerals.{head_text}
use Rattle.table_spec.specs.declared.Style.{Style}
use Rattle.table_spec.specs.Groups.{form, sqz_text, seen_after, more_of, group}

-- what follows, from: points passed over, points given, the last, whether its form is DIF, the bytes of the line so far
abbrev pub Rest : Type 0
Rest = ℕ → ℕ → ℕ → Bool → ℕ → List ℕ

-- the form that is written, and the head of point i
module _ (w : Style) (head_of : ℕ → List ℕ) where
  -- a group, whatever room there is
  unfoldable pub put : Rest → ℕ → ℕ → ℕ → ℕ → List ℕ → List ℕ
  put K col i p y ys =
      group w p y ys ++ K (more_of w (form (seen_after w p) y) y ys) (suc i) y (is_dif (form (seen_after w p) y)) (col + length (group w p y ys))

  -- the head and the first value of a check line: they belong to the last point given, p
  unfoldable pub check : ℕ → ℕ → List ℕ
  check i p = head_of (i - 1) ++ sqz_text p

  -- "a new line, which is a check line if the last form was DIF and continues with the next point otherwise; forms and groups of the points still to come are then found afresh"
  unfoldable pub open_line : Rest → Bool → ℕ → ℕ → ℕ → List ℕ → List ℕ
  open_line K true i p y ys = check i p ++ put K (length (check i p)) i p y ys
  open_line K false i p y ys = head_of i ++ put K (length (head_of i)) i 0 y ys

  -- "Lines hold at most 80 bytes, then CR LF"; "A group that does not fit whole starts a new line"
  unfoldable pub go_on : Rest → Bool → ℕ → ℕ → ℕ → ℕ → List ℕ → List ℕ
  go_on K dif col i p y ys = pick (leb (col + length (group w p y ys)) longest_line) (put K col i p y ys) (13 ∷ 10 ∷ open_line K dif i p y ys)

  -- "Text that ends in DIF form gets a last check line"
  unfoldable pub close : Bool → ℕ → ℕ → List ℕ
  close true i p = check i p ++ 13 ∷ 10 ∷ []
  close false i p = []

  unfoldable pub text : List ℕ → Rest
  text [] n i p dif col = 13 ∷ 10 ∷ close dif i p
  text (y ∷ ys) zero i p dif col = go_on (text ys) dif col i p y ys
  text (y ∷ ys) (suc n) i p dif col = text ys n (suc i) y dif col

  -- the text of some ordinates
  unfoldable pub lines_of : List ℕ → List ℕ
  lines_of [] = []
  lines_of (y ∷ ys) = open_line (text ys) false 0 0 y ys

-- the text of a frame and its ordinates: heads are the abscissas of the points
unfoldable pub written : Style → ℕ → ℕ → ℕ → List ℕ → List ℕ
written w first last n ys = lines_of w (λ i. head_text (nearest first last n i)) ys

-- what writing answers: a refusal number (its place is 0), or the text
pub data Outcome : Type 0 where
  declined : ℕ → Outcome
  wrote : List ℕ → Outcome

-- the text, or 15 where it is longer than the lent bytes
abbrev pub fitted : ℕ → List ℕ → Outcome
fitted space t = pick (ltb space (length t)) (declined 15) (wrote t)

-- "Writer order: 1 (frame), 2, .. 15" (02, T-03: "14 is withdrawn"): F, L and N as they come, the lent ordinates, and how many bytes there is room for
unfoldable pub write_table : Style → ℤ → ℤ → ℕ → List ℤ → ℕ → Outcome
write_table w f l n ys space =
    pick (frame_legal f l n)
    (pick (ltb (length ys) n) (declined 2) (fitted space (written w (abscissa f) (abscissa l) n (map ordinate_of (take n ys)))))
    (declined 1)

-- the lent bytes afterwards
unfoldable pub laid : List ℕ → Outcome → List ℕ
laid out (declined c) = out
laid out (wrote t) = sets out 0 t
