-- From the answers of the writer of tables to what a C host is told. No place of the code is named here. Assumes nothing.
use mathlib.Core.Path.{◌≡◌, refl, ap, ◌∙◌}
use mathlib.Core.List.{List, ◌∷◌}
use Prim.Native.Nat.{ℕ}
use borrow.Author.Tests.{ne_eqb}
use Rattle.terms.specs.declared.Fault.{Fault}
use Rattle.table_spec.specs.Writing.{Outcome, declined, wrote, laid}
use Rattle.table_text.specs.Answers as writing
use Rattle.host_numbers.specs.Numbers.{refused_of, no_flags, Told}
use Rattle.host_text.specs.Answers.{text_answer, OutcomeTold, LengthTold, no_form, FormOf, written_numbers}
use Rattle.std.specs.Prelude.{Result, Ok, Err, None}

-- ---- what the functions tell

pub no_such_form : (k : ℕ) → (k ≡ 0 → ⊥) → (k ≡ 1 → ⊥) → (k ≡ 2 → ⊥) → (k ≡ 3 → ⊥) → FormOf k None
no_such_form k a b c d = λ f l n ys space. rw (ne_eqb k 0 a, ne_eqb k 1 b, ne_eqb k 2 c, ne_eqb k 3 d) refl

pub tells_length : {w : Result ℕ Fault} {m : ℕ} → w ≡ Ok m → Told (written_numbers w) (0 ∷ m ∷ no_flags) 0
tells_length e = rw e (record { numbers = refl; returned = refl })

pub tells_refusal : {w : Result ℕ Fault} {f : Fault} → w ≡ Err f → Told (written_numbers w) (f.number ∷ 0 ∷ no_flags) f.number
tells_refusal e = rw e (record { numbers = refl; returned = refl })

-- ---- so that a host is told of an outcome

text_numbers : (x : Outcome) → written_numbers (writing.told x) ≡ text_answer no_flags x
text_numbers (declined c) = refl
text_numbers (wrote t) = refl

module _ (x : Outcome) {answer : List ℕ} {r : ℕ} where
  pub text_measured : {w : Result ℕ Fault} → w ≡ writing.told x → Told (written_numbers w) answer r → LengthTold no_flags x answer r
  text_measured e g =
      let z = ap written_numbers e ∙ text_numbers x in
      record { numbers = g.numbers ∙ z; returned = g.returned ∙ ap refused_of z }

  pub text_told : {w : Result ℕ Fault} {o o' : List ℕ} → writing.Tells x o o' w → Told (written_numbers w) answer r → OutcomeTold no_flags x o o' answer r
  text_told t g = let z = text_measured t.answer g in record { numbers = z.numbers; returned = z.returned; leaves = t.bytes }

  -- a number that is no form's
  pub no_form_measured : x ≡ declined no_form → Told (no_form ∷ 0 ∷ no_flags) answer r → LengthTold no_flags x answer r
  no_form_measured e g = rw e (record { numbers = g.numbers; returned = g.returned })

  pub no_form_told : {o : List ℕ} → x ≡ declined no_form → Told (no_form ∷ 0 ∷ no_flags) answer r → OutcomeTold no_flags x o o answer r
  unfolding laid
  no_form_told e g = rw e (record { numbers = g.numbers; returned = g.returned; leaves = refl })

-- a form by its number
pub outcome_as : {x y : Outcome} {o o' answer : List ℕ} {r : ℕ} → x ≡ y → OutcomeTold no_flags y o o' answer r → OutcomeTold no_flags x o o' answer r
outcome_as {x} {y} {o} {o'} e g = record { numbers = rw e g.numbers; returned = rw e g.returned; leaves = rw e g.leaves }
