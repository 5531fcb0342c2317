-- What a line did, by the check of its head and the rest of its row, and what the code keeps of its front (02, T-14). Assumes nothing.
use Rattle.std.specs.Prelude.{◌≡◌, Bool, false, List, ℕ, Result, Ok, Err}
use Rattle.terms.specs.Logic.{pick}
use Rattle.table_spec.specs.Frame.{passes}
use Rattle.table_spec.specs.Values.{Dup, is_dif, index}
use Rattle.table_lines.specs.Heads.{Topped}
use Rattle.frame.specs.declared.Frame.{Frame}
use Rattle.table_values.specs.declared.Row.{Row as Between, Row}
use Rattle.plain_spec.specs.Rows.{values}
use Rattle.plain_values.specs.Means.{form_of}
use Rattle.plain_rows.specs.declared.Front.{Front}
use Rattle.plain_expand.specs.declared.Grows.{Grows}
use Rattle.plain_expand.specs.Grows.{NextSays}
use Rattle.terms.specs.declared.Fault.{Fault}
use Rattle.plain_expand.specs.declared.Next.{Next}
use Rattle.terms.specs.Refusals.{fault_at}

-- a line's refusal, after the check of its head
abbrev pub after_head : Bool → ℕ → ℕ → ℕ → Result Row Fault
after_head passes at n a = pick passes (Err (fault_at n a)) (Err (fault_at 6 at))

-- what a line did
abbrev pub after_rest : Bool → ℕ → Result (Grows × ℕ) Fault → Result Row Fault
after_rest passes at (Err x) = after_head passes at x.number x.place
after_rest passes at (Ok (g, j)) = pick passes (Ok (record { at = j; k = g.k; q = g.q; dif = is_dif (form_of g.form) })) (Err (fault_at 6 at))

-- a row from its first ordinate on, which is the k-th point
abbrev pub start_of : Front → ℕ → Grows
start_of f k = record { at = f.b; k = k; q = f.p.last; form = f.p.form }

-- the front of a row, as it stands in the text: its head, how that passes after the state r, and its first value
pub record Fronts (fr : Frame) (s : List ℕ) (r : Between) (f : Front) : Type 0 where
  pub abscissa : ℕ
  pub unit : ℕ
  pub values : ℕ
  pub head : Topped s f.at abscissa unit values
  pub passing : f.passes ≡ passes fr.first fr.last fr.points abscissa unit (index r.dif r.k)
  pub first : NextSays s values 0 (Dup false) (Ok (Next.Gives f.p f.a f.b))
