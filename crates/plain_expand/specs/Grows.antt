-- What stands next on a line, and how a row grows by it (02, T-14). Assumes nothing.
use Rattle.std.specs.Prelude.{◌≡◌, false, List, map, ℕ, ◌+◌, ◌-◌, ◌<◌, ◌≤◌, ℤ, length, Result, Ok, Err}
use Rattle.std.proofs.lemmas.List.Edits.{sets}
use Rattle.table_spec.specs.Frame.{entry_for}
use Rattle.table_spec.specs.Values.{Value, Form, is_dif, after, last_or}
use Rattle.table_spec.specs.Reading.{value, line, fresh, bare}
use Rattle.table_lines.specs.Seen.{seen, here}
use Rattle.plain_spec.specs.Rows.{Row, bad, values}
use Rattle.plain_spec.specs.Plain.{ordinates, in_dif, fine, wrong}
use Rattle.plain_law.specs.Within.{beyond}
use Rattle.plain_law.specs.Growing.{hold, fault_of}
use Rattle.plain_values.specs.Means.{form_of, Right, Fits, Adds}
use Rattle.plain_expand.specs.declared.Grows.{Grows}
use Rattle.terms.specs.declared.Fault.{Fault}
use Rattle.plain_expand.specs.declared.Next.{Next}

-- what stands next on a line
abbrev pub NextSays : List ℕ → ℕ → ℕ → Form → Result Next Fault → Type 0
NextSays s at q f (Ok (Next.End j)) = (at ≤ j) × (j ≤ length s) × (here s at ≡ line (seen s j fresh))
NextSays s at q f (Err x) = (values (here s at) (after f) q ≡ bad x.number x.place) × (bare (here s at) ≡ false)
NextSays s at q f (Ok (Next.Gives p a j)) = (at < j) × (j ≤ length s) × Fits p × ((x : Value) × (here s at ≡ value a x (here s j)) × Adds q f x p)

-- a row that grows, right for the text, with at most N points
pub record Stands (N : ℕ) (s : List ℕ) (r : Grows) : Type 0 where
  pub some : 0 < r.at
  pub high : r.at ≤ length s
  pub small : r.q < 4294967296
  pub right : Right r.form r.q
  pub few : r.k ≤ N

-- the rest of a row, held to the points that are missing
abbrev pub rest_of : ℕ → List ℕ → Grows → Row
rest_of N s r = hold (values (here s r.at) (after (form_of r.form)) r.q) (N - r.k)

-- a row that was expanded to its end: its points, which were laid, its last ordinate, and its form
pub record Done (N : ℕ) (s : List ℕ) (c : Grows) (out out' : List ℤ) (r : Grows) (j : ℕ) : Type 0 where
  pub fine : fault_of (rest_of N s c) ≡ fine
  pub count : r.k ≡ c.k + length (ordinates (rest_of N s c))
  pub last : last_or c.q (ordinates (rest_of N s c)) ≡ r.q
  pub form : in_dif (rest_of N s c) ≡ is_dif (form_of r.form)
  pub beyond : beyond (here s c.at) ≡ seen s j fresh
  pub laid : out' ≡ sets out c.k (map entry_for (ordinates (rest_of N s c)))

abbrev pub ExpandSays : ℕ → List ℕ → Grows → List ℤ → List ℤ → Result (Grows × ℕ) Fault → Type 0
ExpandSays N s c out out' (Ok (r, j)) = (j ≤ length s) × (c.at ≤ j) × Stands N s r × Done N s c out out' r j
ExpandSays N s c out out' (Err x) = fault_of (rest_of N s c) ≡ wrong x.number x.place

-- what expanding the rest of a row ensures
pub record Expands (N : ℕ) (s : List ℕ) (c : Grows) (out out' : List ℤ) (r : Result (Grows × ℕ) Fault) : Type 0 where
  pub says : ExpandSays N s c out out' r
