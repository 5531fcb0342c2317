-- Where the body of a file's table stands: "from the line after the list to the next label's `##`" (01, "The file"). Assumes nothing.
use Rattle.std.specs.Prelude.{List, ℕ, suc, ◌+◌, Option, Some, None, Result, Ok, Err}
use Rattle.label_spec.specs.File.{labelled}
use Rattle.label_spec.specs.declared.Span.{Span}
use Rattle.file_spec.specs.declared.Needed.{Needed}
use Rattle.file_spec.specs.Texts.{gathered_from, text_in, listed_in}
use Rattle.label_spec.specs.declared.Places.{Places}
use Rattle.terms.specs.declared.Fault.{Fault}

-- the body starts at a place of the text of XYDATA
abbrev pub body_from : Needed → ℕ → Span
body_from t start = record { from = t.xydata.from + start; to = t.xydata.to }

-- ---- the body, where there is one: none if the list is not the one asked for, a record is absent, or the labels are refused

unfoldable pub found_at : Needed → Option ℕ → Option Span
found_at t None = None
found_at t (Some start) = Some (body_from t start)

unfoldable pub found_in : List ℕ → Option Needed → Option Span
found_in s None = None
found_in s (Some t) = found_at t (listed_in (text_in s t.xydata))

unfoldable pub found_between : List ℕ → Result Places Fault → Option Span
found_between s (Err r) = None
found_between s (Ok y) = found_in s (gathered_from s (suc y.eq) y.end)

-- of a file
abbrev pub found_body : List ℕ → Option Span
found_body s = found_between s (labelled s)

-- ---- its place; where there is none no answer shows it

abbrev pub span_of : Option Span → Span
span_of None = record { from = 0; to = 0 }
span_of (Some b) = b

abbrev pub body_at : Needed → Option ℕ → Span
body_at t x = span_of (found_at t x)

abbrev pub body_in : List ℕ → Option Needed → Span
body_in s x = span_of (found_in s x)

abbrev pub body_of : List ℕ → Span
body_of s = span_of (found_body s)
