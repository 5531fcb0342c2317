-- What finding a record in a text ensures. Assumes nothing.
use Rattle.std.specs.Prelude.{◌≡◌, true, List, ℕ, length, Option}
use Rattle.label_spec.specs.Labels.{from}
use Rattle.label_spec.specs.Records.{record_of}
use Rattle.label.specs.Answers.{found_in}
use Rattle.label_spec.specs.declared.Span.{Span}

-- r is the text of the first record with the name w among the labels from the place m, where only blanks stand before on the line, and before stop; and it lies in the text s.
abbrev pub FindsFrom : List ℕ → ℕ → ℕ → List ℕ → Option Span → Type 0
FindsFrom s m stop w r = (r ≡ record_of (length s) stop w (from s m true)) × found_in 0 (length s) r
