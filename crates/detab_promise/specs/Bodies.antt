-- T-13 in the terms of the public functions: what the reader answers to a converted body is what it answered to the body before, line and column too. Assumes nothing.
use Rattle.std.specs.Prelude.{◌≡◌, refl, false, List, ℕ, ℤ, length, Result}
use Rattle.std.proofs.Common.{ap, ◌∙◌}
use Rattle.table_spec.specs.Reading.{Answer, refuse, accept, read_table, stored}
use Rattle.table_spec.specs.Tabs.{spaced, read_before}
use Rattle.table_tabs.specs.Converted.{converted_table, same_line, same_column}
use Rattle.table_read.specs.Answers.{told, TableSays}
use Rattle.terms.specs.declared.Refusal.{Refusal}

told_same : (n : ℕ) (s : List ℕ) (x : Answer) → told n (spaced false s) x ≡ told n s x
told_same n s (refuse c a) = rw (same_line false s a, same_column false 1 s a) refl
told_same n s (accept ys) = refl

-- "its output reads as the old reader read the input, numbers and places equal, for all bodies": the body as `detab` leaves it, given to the reader of this release
pub reads_as_before : (f l : ℤ) (n : ℕ) (body : List ℕ) (out out' : List ℤ) (r : Result ℕ Refusal) → TableSays f l n (spaced false body) out out' r
    → (r ≡ told n body (read_before f l n body (length out))) × (out' ≡ stored out (read_before f l n body (length out)))
reads_as_before f l n body out out' r says =
    let now = read_table f l n (spaced false body) (length out) in
    let e = converted_table f l n body (length out) in
    (says.answers ∙ told_same n body now ∙ ap (told n body) e, says.leaves ∙ ap (stored out) e)
