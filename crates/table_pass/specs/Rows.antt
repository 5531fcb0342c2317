-- The state of the code between lines, and what reading a line and a body ensures. Assumes nothing.
use Rattle.std.specs.Prelude.{◌≡◌, Bool, true, List, map, ℕ, ◌+◌, ◌<◌, ◌≤◌, ltb, ℤ, length, Result, Ok, Err, ⊤}
use Rattle.std.proofs.lemmas.List.Edits.{sets}
use Rattle.terms.specs.Logic.{pick}
use Rattle.table_spec.specs.Frame.{Rules, rules, entry_for}
use Rattle.table_spec.specs.Values.{Spot}
use Rattle.table_spec.specs.Reading.{fresh, Answer, refuse, accept, push, dif_before, judge, read_lines}
use Rattle.table_lines.specs.Seen.{seen}
use Rattle.frame.specs.declared.Frame.{Frame}
use Rattle.table_values.specs.declared.Row.{Row}
use Rattle.terms.specs.declared.Fault.{Fault}
use Rattle.terms.specs.Refusals.{fault_at}

abbrev pub frame_rules : Frame → Rules
frame_rules fr = rules fr.first fr.last fr.points

-- how the code keeps the last ordinate p and the spot w between lines
pub record Between (r : Row) (p : ℕ) (w : Spot) : Type 0 where
  pub form : dif_before w ≡ r.dif
  pub last : r.dif ≡ true → (p ≡ r.q) × (0 < r.q)

-- a state between lines that is right for the text
pub record Rests (N : ℕ) (s : List ℕ) (r : Row) : Type 0 where
  pub high : r.at ≤ length s
  pub small : r.q < 4294967296
  pub few : r.k ≤ N

-- from a place, with k points given, to a state between lines: the points between, which were stored, and what is left to read
pub record Onward (R : Rules) (s : List ℕ) (at k p : ℕ) (w : Spot) (out out' : List ℤ) (r : Row) : Type 0 where
  pub points : List ℕ
  pub ordinate : ℕ
  pub spot : Spot
  pub between : Between r ordinate spot
  pub count : r.k ≡ k + length points
  pub stored : out' ≡ sets out k (map entry_for points)
  pub law : judge R (seen s at fresh) k p w ≡ push points (judge R (seen s r.at fresh) r.k ordinate spot)

-- a line whose head stands at the place
abbrev pub LineSays : Rules → List ℕ → Row → ℕ → List ℤ → List ℤ → Result Row Fault → Type 0
LineSays R s r at out out' (Ok n) =
    (at < n.at) × Rests R.points s n × ((p : ℕ) (w : Spot) → Between r p w → Onward R s at r.k p w out out' n)
LineSays R s r at out out' (Err x) = (p : ℕ) (w : Spot) → Between r p w → judge R (seen s at fresh) r.k p w ≡ refuse x.number x.place

-- the end of a body of a length, with k points given: 12, 13, or all is there
abbrev pub finished : ℕ → ℕ → ℕ → Bool → Result ⊤ Fault
finished N len k dif = pick (ltb k N) (Err (fault_at 12 len)) (pick dif (Err (fault_at 13 len)) (Ok tt))

-- what the pass over a body answers
abbrev pub passed_of : Answer → Result ⊤ Fault
passed_of (refuse c a) = Err (fault_at c a)
passed_of (accept ys) = Ok tt

-- and what it stored
pub record PassSays (R : Rules) (s : List ℕ) (out out' : List ℤ) (r : Result ⊤ Fault) : Type 0 where
  pub says : r ≡ passed_of (read_lines R s)
  pub stores : (ys : List ℕ) → read_lines R s ≡ accept ys → out' ≡ sets out 0 (map entry_for ys)
  pub count : (ys : List ℕ) → read_lines R s ≡ accept ys → length ys ≡ R.points
