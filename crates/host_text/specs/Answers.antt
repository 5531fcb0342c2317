-- What a C host is told of a table's text, written or measured (02, T-10): the numbers of the answer's struct, in the header's order, and the first once more as the result. Assumes nothing.
use Rattle.std.specs.Prelude.{◌≡◌, List, ◌∷◌, ℕ, ℤ, eqb, length, Result, Ok, Err, Option, Some, None}
use Rattle.terms.specs.Logic.{pick}
use Rattle.table_spec.specs.Writing.{Outcome, declined, wrote, write_table, laid}
use Rattle.table_spec.specs.declared.Style.{Style}
use Rattle.table_spec.specs.declared.Style.TheVariants.{Difdup, Affn, Pac, Sqz}
use Rattle.table_write.specs.Room.{enough}
use Rattle.host_numbers.specs.Numbers.{refused_of, no_flags}
use Rattle.terms.specs.declared.Fault.{Fault}

-- a text written: refused, length, what is exact
abbrev pub text_answer : List ℕ → Outcome → List ℕ
text_answer ks (declined c) = c ∷ 0 ∷ no_flags
text_answer ks (wrote t) = 0 ∷ length t ∷ ks

-- what a host is told of an outcome of writing, where this is exact
pub record OutcomeTold (ks : List ℕ) (x : Outcome) (text text' : List ℕ) (answer : List ℕ) (r : ℕ) : Type 0 where
  pub numbers : answer ≡ text_answer ks x
  pub returned : r ≡ refused_of (text_answer ks x)
  pub leaves : text' ≡ laid text x

-- a table written in a form
abbrev pub TextTold : Style → ℤ → ℤ → ℕ → List ℤ → List ℕ → List ℕ → List ℕ → ℕ → Type 0
TextTold w f l n ys text text' answer r = OutcomeTold no_flags (write_table w f l n ys (length text)) text text' answer r

-- the number for a form that is none, -1 in 64 bits
abbrev pub no_form : ℕ
no_form = 18446744073709551615

-- the forms by the header's numbers; any other is declined, whatever else is given
abbrev pub write_form : ℕ → ℤ → ℤ → ℕ → List ℤ → ℕ → Outcome
write_form k f l n ys space =
    pick (eqb k 0) (write_table Difdup f l n ys space)
    (pick (eqb k 1) (write_table Affn f l n ys space)
    (pick (eqb k 2) (write_table Pac f l n ys space)
    (pick (eqb k 3) (write_table Sqz f l n ys space)
    (declined no_form))))

-- a table written in the form of a number
abbrev pub FormTold : ℕ → ℤ → ℤ → ℕ → List ℤ → List ℕ → List ℕ → List ℕ → ℕ → Type 0
FormTold k f l n ys text text' answer r = OutcomeTold no_flags (write_form k f l n ys (length text)) text text' answer r

-- ---- the length of a text (02, T-10)

-- what a host is told where nothing is written
pub record LengthTold (ks : List ℕ) (x : Outcome) (answer : List ℕ) (r : ℕ) : Type 0 where
  pub numbers : answer ≡ text_answer ks x
  pub returned : r ≡ refused_of (text_answer ks x)

-- a table's text in the form of a number: the numbers that writing it into enough room is told with
abbrev pub TextLengthTold : ℕ → ℤ → ℤ → ℕ → List ℤ → List ℕ → ℕ → Type 0
TextLengthTold k f l n ys answer r = LengthTold no_flags (write_form k f l n ys (enough n)) answer r

-- ---- what the functions here answer

-- the form of a number, or that it is none's
abbrev pub FormOf : ℕ → Option Style → Type 0
FormOf k (Some st) = (f l : ℤ) (n : ℕ) (ys : List ℤ) (space : ℕ) → write_form k f l n ys space ≡ write_table st f l n ys space
FormOf k None = (f l : ℤ) (n : ℕ) (ys : List ℤ) (space : ℕ) → write_form k f l n ys space ≡ declined no_form

-- the numbers of what a writer of tables answered
abbrev pub written_numbers : Result ℕ Fault → List ℕ
written_numbers (Ok m) = 0 ∷ m ∷ no_flags
written_numbers (Err f) = f.number ∷ 0 ∷ no_flags
