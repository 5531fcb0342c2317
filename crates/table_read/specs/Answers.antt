-- The answers of the public functions, for each of their cases (01, "Refusal numbers"). Assumes nothing.
use Rattle.std.specs.Prelude.{◌≡◌, List, ℕ, ℤ, length, get_or, ltb, Option, Some, None, Result, Ok, Err}
use Rattle.terms.specs.Refusals.{fault_at, refusal_in}
use Rattle.terms.specs.Logic.{pick}
use Rattle.table_spec.specs.Frame.{entry_for}
use Rattle.table_spec.specs.Reading.{Answer, refuse, accept, read_table, stored}
use Rattle.terms.specs.declared.Fault.{Fault}
use Rattle.terms.specs.declared.Refusal.{Refusal}

-- reading a table of N points with the body s: the paper's number and place, with its line and column in the body; or N
abbrev pub told : ℕ → List ℕ → Answer → Result ℕ Refusal
told n s (refuse c a) = Err (refusal_in s c a)
told n s (accept ys) = Ok n

-- checking one: the paper's number and place, or the first ordinate as it would stand in the slice
abbrev pub told_first : Answer → Result ℤ Fault
told_first (refuse c a) = Err (fault_at c a)
told_first (accept ys) = Ok (entry_for (get_or ys 0 0))

-- 02, T-06, "tested before everything else on that line": what was found otherwise counts where it stands before the first long line
abbrev pub sooner_of : Option ℕ → Result ℤ Fault → Result ℤ Fault
sooner_of None x = x
sooner_of (Some a) (Err f) = pick (ltb f.place a) (Err f) (Err (fault_at 16 a))
sooner_of (Some a) (Ok y) = Err (fault_at 16 a)

-- an answer that accepts
abbrev pub Accepts : Answer → Type 0
Accepts (refuse c a) = ⊥
Accepts (accept ys) = Unit {0}

-- the public contract of reading: F, L and N as they come, the body, the slice before and after, and the answer
pub record TableSays (f l : ℤ) (n : ℕ) (body : List ℕ) (out out' : List ℤ) (r : Result ℕ Refusal) : Type 0 where
  pub answers : r ≡ told n body (read_table f l n body (length out))
  pub leaves : out' ≡ stored out (read_table f l n body (length out))
