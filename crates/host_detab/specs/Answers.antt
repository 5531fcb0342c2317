-- What the functions for C that convert answer, and that the outcomes are unique. Assumes nothing.
use Rattle.std.specs.Prelude.{◌≡◌, false, List, ℕ}
use Rattle.std.proofs.Common.{sym, ◌∙◌}
use Rattle.terms.specs.Logic.{pick}
use Rattle.table_spec.specs.Tabs.{spaced}
use Rattle.file_spec.specs.Places.{found_body}
use Rattle.file_spec.specs.Tabs.{detabbed, is_found}

-- a table: its body afterwards
pub record TableConverted (body body' : List ℕ) : Type 0 where
  pub leaves : body' ≡ spaced false body

-- a file: 1 where it has a body, else 0, and the file afterwards
pub record FileConverted (file file' : List ℕ) (r : ℕ) : Type 0 where
  pub returned : r ≡ pick (is_found (found_body file)) 1 0
  pub leaves : file' ≡ detabbed file

pub table_unique : (body : List ℕ) {a b : List ℕ} → TableConverted body a → TableConverted body b → a ≡ b
table_unique body x y = x.leaves ∙ sym y.leaves

pub file_unique : (file : List ℕ) {a b : List ℕ} {r q : ℕ} → FileConverted file a r → FileConverted file b q → (r ≡ q) × (a ≡ b)
file_unique file x y = (x.returned ∙ sym y.returned, x.leaves ∙ sym y.leaves)
