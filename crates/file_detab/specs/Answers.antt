-- The public contract of the converter of files, and that the outcome is unique. Assumes nothing.
use Rattle.std.specs.Prelude.{◌≡◌, Bool, List, ℕ, Option, Some, None}
use Rattle.std.proofs.Common.{sym, ◌∙◌}
use Rattle.file_marks.specs.Spans.{Within}
use Rattle.file_spec.specs.Places.{found_body}
use Rattle.file_spec.specs.Tabs.{detabbed, is_found}
use Rattle.label_spec.specs.declared.Span.{Span}

-- a body that is found lies within a file of that length
abbrev pub FoundWithin : ℕ → Option Span → Type 0
FoundWithin len None = Unit {0}
FoundWithin len (Some b) = Within len b

-- the file before and after, and the answer: is there a body?
pub record FileDetabs (file file' : List ℕ) (r : Bool) : Type 0 where
  pub answers : r ≡ is_found (found_body file)
  pub leaves : file' ≡ detabbed file

pub outcome_unique : (file : List ℕ) {a b : List ℕ} {r q : Bool} → FileDetabs file a r → FileDetabs file b q → (r ≡ q) × (a ≡ b)
outcome_unique file x y = (x.answers ∙ sym y.answers, x.leaves ∙ sym y.leaves)
