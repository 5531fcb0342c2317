-- What writing a table ensures (01, "The written text" and "Refusal numbers"). Assumes nothing.
use Rattle.std.specs.Prelude.{◌≡◌, List, map, ℕ, ltb, ℤ, length, take, Result, Ok, Err}
use Rattle.terms.specs.Refusals.{fault_at}
use Rattle.frame.specs.declared.Frame.{Frame}
use Rattle.terms.specs.Logic.{pick}
use Rattle.table_spec.specs.Frame.{ordinate_of}
use Rattle.table_spec.specs.Writing.{Outcome, declined, wrote, fitted, written, write_table, laid}
use Rattle.table_spec.specs.declared.Style.{Style}
use Rattle.terms.specs.declared.Fault.{Fault}

-- a refusal of the writer stands at place 0
abbrev pub refused : ℕ → Result ℕ Fault
refused c = Err (fault_at c 0)

-- this paper's number and values for each case of the answer
abbrev pub told : Outcome → Result ℕ Fault
told (declined c) = refused c
told (wrote t) = Ok (length t)

-- an outcome: the answer and every entry of the lent bytes afterwards
pub record Tells (x : Outcome) (out₀ out : List ℕ) (r : Result ℕ Fault) : Type 0 where
  pub answer : r ≡ told x
  pub bytes : out ≡ laid out₀ x

-- the writer's answer and the lent bytes are what `write_table` says of a form (02, T-02)
abbrev pub Answered : Style → ℤ → ℤ → ℕ → List ℤ → List ℕ → List ℕ → Result ℕ Fault → Type 0
Answered st f l n ys out₀ out r = Tells (write_table st f l n ys (length out₀)) out₀ out r

-- the same in a legal frame
abbrev pub outcome : Style → Frame → List ℤ → ℕ → Outcome
outcome st fr ys space =
    pick (ltb (length ys) fr.points) (declined 2) (fitted space (written st fr.first fr.last fr.points (map ordinate_of (take fr.points ys))))

abbrev pub FramedAnswer : Style → Frame → List ℤ → List ℕ → List ℕ → Result ℕ Fault → Type 0
FramedAnswer st fr ys out₀ out r = Tells (outcome st fr ys (length out₀)) out₀ out r
