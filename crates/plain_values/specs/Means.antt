-- What a value stands for, as the plain engine keeps it: so many steps of a difference from an ordinate (01, "Meaning"). Assumes nothing.
use Rattle.std.specs.Prelude.{◌≡◌, true, false, List, ℕ, ◌<◌, ◌≤◌, Result, Ok, Err}
use Rattle.table_spec.specs.Values.{Value, Form, Own, Gap, By, Dup, after, copies, last_or}
use Rattle.table_spec.specs.Reading.{adds, refuses, says}
use Rattle.table_ordinates.specs.Reach.{Reaches}
use Rattle.plain_values.specs.declared.Form.{Form as Kept}
use Rattle.plain_values.specs.declared.Form.TheVariants as form
use Rattle.plain_values.specs.declared.Points.{Points}
use Rattle.terms.specs.declared.Reason.{Reason}
use Rattle.terms.specs.Refusals.{reason_number}

-- the form that the code keeps
abbrev pub form_of : Kept → Form
form_of form.Own = Own
form_of form.Missing = Gap
form_of (form.Dif m d) = By m d
form_of (form.Dup b) = Dup b

-- a form that is right for the ordinate q: in DIF form that is not missing
abbrev pub Right : Kept → ℕ → Type 0
Right form.Own q = Unit {0}
Right form.Missing q = Unit {0}
Right (form.Dif m d) q = (0 < q) × (d < 10000000000)
Right (form.Dup b) q = b ≡ true → 0 < q

-- the ordinates of a value
abbrev pub points_of : Points → List ℕ
points_of p = copies p.n (By p.minus p.d) p.q

-- they are in range, and few enough to be counted
pub record Fits (p : Points) : Type 0 where
  pub some : 1 ≤ p.n
  pub few : p.n < 100000
  pub small : p.q < 4294967296
  pub end : p.last < 4294967296
  pub reach : Reaches p.minus p.d p.n p.q
  pub right : Right p.form p.last

-- the value x stands for them after an ordinate q of the form f
pub record Adds (q : ℕ) (f : Form) (x : Value) (p : Points) : Type 0 where
  pub is : says (after f) q x ≡ adds (points_of p) (form_of p.form)
  pub last : last_or q (points_of p) ≡ p.last

abbrev pub Means : ℕ → Form → Value → Result Points Reason → Type 0
Means q f x (Ok p) = Fits p × Adds q f x p
Means q f x (Err y) = says (after f) q x ≡ refuses (reason_number y)

-- whatever the form before it, and whatever stands before it
abbrev pub After : ℕ → Value → Result Points Reason → Type 0
After q x r = (f : Form) → Means q f x r

abbrev pub Anywhere : Value → Result Points Reason → Type 0
Anywhere x r = (q : ℕ) → After q x r

-- a missing ordinate
abbrev pub missing_one : Points
missing_one = record { q = 0; minus = false; d = 0; n = 1; last = 0; form = form.Missing }

-- n further copies of the ordinate q
abbrev pub same_again : ℕ → ℕ → Result Points Reason
same_again q n = Ok (record { q = q; minus = false; d = 0; n = n; last = q; form = form.Dup false })
