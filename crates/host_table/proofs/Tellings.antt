-- From the answer of a reader of tables to what a C host is told. No place of the code is named here. Assumes nothing.
use mathlib.Core.Path.{◌≡◌, refl, ap, ◌∙◌}
use mathlib.Core.List.{List}
use Prim.Native.Nat.{ℕ}
use lib.IntN.{ℤ}
use lib.ListN.{length}
use Rattle.table_spec.specs.Reading.{Answer, refuse, accept, read_table}
use Rattle.table_read.specs.Answers.{told, TableSays}
use Rattle.host_numbers.specs.Numbers.{Told}
use Rattle.host_numbers.specs.NumberLaws.{told_as}
use Rattle.host_table.specs.Answers.{table_answer, TableTold, table_numbers}
use Rattle.std.specs.Prelude.{Result}
use Rattle.terms.specs.declared.Refusal.{Refusal}

-- the numbers of an answer are those of what it is told as
table_numbers_lem : (n : ℕ) (s : List ℕ) (x : Answer) → table_numbers (told n s x) ≡ table_answer n s x
table_numbers_lem n s (refuse c a) = refl
table_numbers_lem n s (accept ys) = refl

-- so that a host is told
pub told_table : {f l : ℤ} {n : ℕ} {body : List ℕ} {out out' : List ℤ} {x : Result ℕ Refusal} {ns : List ℕ} {r : ℕ} → TableSays f l n body out out' x → Told (table_numbers x) ns r
    → TableTold f l n body out out' ns r
told_table {f} {l} {n} {body} {out} g t =
    let z = told_as (ap table_numbers g.answers ∙ table_numbers_lem n body (read_table f l n body (length out))) t in
    record { numbers = z.numbers; returned = z.returned; leaves = g.leaves }
