-- 02, T-14, "then makes the checks row by row, then lays the rows one after another". Assumes nothing.
use Rattle.std.specs.Prelude.{Bool, true, false, List, [], ◌∷◌, ◌++◌, ℕ, suc, ◌+◌, ltb, leb, eqb, ℤ, length}
use Rattle.terms.specs.Logic.{pick, both}
use Rattle.table_spec.specs.Frame.{Rules, rules, longest_body, frame_legal, abscissa}
use Rattle.table_spec.specs.Values.{last_or, index}
use Rattle.table_spec.specs.Reading.{Answer, refuse, accept}
use Rattle.plain_spec.specs.Rows.{Row, point, done, bad, Line, passed, unread, row, rows}

-- ---- what a row holds

abbrev pub ordinates : Row → List ℕ
ordinates (point a u r) = u ∷ ordinates r
ordinates (done d) = []
ordinates (bad c a) = []

abbrev pub in_dif : Row → Bool
in_dif (point a u r) = in_dif r
in_dif (done d) = d
in_dif (bad c a) = false

-- 01, "Checks": the first value of a check line (true) adds no point
abbrev pub new : Row → Bool → Row
new (point a u r) true = r
new (point a u r) false = point a u r
new (done d) c = done d
new (bad k a) c = bad k a

-- ---- 3. the checks

-- no fault; or the first, its number and place
pub data Verdict : Type 0 where
  fine : Verdict
  wrong : ℕ → ℕ → Verdict

-- the faults that are met later count if there is none before
abbrev pub then : Verdict → Verdict → Verdict
then fine v = v
then (wrong c a) v = wrong c a

-- 10: "first value of a check line missing or unequal", after the ordinate p
abbrev pub meets : Row → Bool → ℕ → Verdict
meets (point a u r) true p = pick (both (ltb 0 u) (eqb u p)) fine (wrong 10 a)
meets (point a u r) false p = fine
meets (done d) c p = fine
meets (bad k a) c p = fine

-- 11: "more than N points", at the value that gives the point N + 1, where i are there; or the row's own fault, if that is met first
abbrev pub fits : ℕ → Row → ℕ → Verdict
fits N (point a u r) i = pick (ltb i N) (fits N r (suc i)) (wrong 11 a)
fits N (done d) i = fine
fits N (bad c a) i = wrong c a

module _ (R : Rules) where
  -- a row laid after i points, the last of them p: 11 and its own fault, then what comes after it
  abbrev pub onward : (ℕ → ℕ → Bool → Verdict) → Row → ℕ → ℕ → Verdict
  onward f r i p = then (fits R.points r i) (f (i + length (ordinates r)) (last_or p (ordinates r)) (in_dif r))

  -- row by row, to the end of the body at the place z: i points are there, p is the last; c: the line before ended in DIF form. A row: 6, then 10, then the others; the end: 12, then 13
  unfoldable pub checks : ℕ → List Line → ℕ → ℕ → Bool → Verdict
  checks z [] i p c = pick (ltb i R.points) (wrong 12 z) (pick c (wrong 13 z) fine)
  checks z (passed ∷ ls) i p c = checks z ls i p c
  checks z (unread k a ∷ ls) i p c = wrong k a
  checks z (row a h u r ∷ ls) i p c = pick (R.passing h u (index c i)) (then (meets r c p) (onward (checks z ls) (new r c) i p)) (wrong 6 a)

-- ---- 4. the rows, one after another; c: the line before ended in DIF form

unfoldable pub laid : List Line → Bool → List ℕ
laid [] c = []
laid (passed ∷ ls) c = laid ls c
laid (unread k a ∷ ls) c = []
laid (row a h u r ∷ ls) c = ordinates (new r c) ++ laid ls (in_dif (new r c))

-- ---- 5. the answer

abbrev pub answer : Verdict → List ℕ → Answer
answer fine ys = accept ys
answer (wrong c a) ys = refuse c a

unfoldable pub plain : Rules → List ℕ → Answer
plain R s = answer (checks R (length s) (rows R.tabs s) 0 0 false) (laid (rows R.tabs s) false)

-- frame, body and room first, as ever: 1, then 2
unfoldable pub plain_table : ℤ → ℤ → ℕ → List ℕ → ℕ → Answer
plain_table f l n s space =
    pick (both (frame_legal f l n) (leb (length s) longest_body)) (pick (ltb space n) (refuse 2 0) (plain (rules (abscissa f) (abscissa l) n) s)) (refuse 1 0)
