-- Where the answer of what a file's labels say lies. Assumes nothing.
use Rattle.std.specs.Prelude.{List, ℕ, ◌<◌, ◌≤◌, length, Result, Ok, Err}
use Rattle.label_title.specs.Answers.{TitleAt}
use Rattle.label_spec.specs.declared.Places.{Places}
use Rattle.terms.specs.declared.Fault.{Fault}

-- The places of each answer lie in the file.
abbrev pub LabelledIn : List ℕ → Result Places Fault → Type 0
LabelledIn s (Ok y) = TitleAt s y.title y.eq × (y.eq < y.end) × (y.end < length s)
LabelledIn s (Err r) = r.place ≤ length s
