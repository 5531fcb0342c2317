-- How much room a text needs (02, T-10). Assumes nothing.
use Rattle.std.specs.Prelude.{◌≡◌, List, ℕ, ◌+◌, ◌*◌, ℤ, Result}
use Rattle.std.proofs.Common.{sym, ◌∙◌}
use Rattle.table_spec.specs.declared.Style.{Style}
use Rattle.table_spec.specs.Writing.{write_table}
use Rattle.table_text.specs.Answers.{told}
use Rattle.terms.specs.declared.Fault.{Fault}

-- bytes that are enough for the text of N points in each of the four forms
abbrev pub enough : ℕ → ℕ
enough n = 15 * n + 44

-- the length of a text, or the refusal: what writing it into enough room answers
abbrev pub Measured : Style → ℤ → ℤ → ℕ → List ℤ → Result ℕ Fault → Type 0
Measured st f l n ys r = r ≡ told (write_table st f l n ys (enough n))

pub length_unique : (st : Style) (f l : ℤ) (n : ℕ) (ys : List ℤ) {r q : Result ℕ Fault} → Measured st f l n ys r → Measured st f l n ys q → r ≡ q
length_unique st f l n ys x y = x ∙ sym y
