-- 01, The file: "The text of a record is shown as the part of the file from after `=` to the next label's `##`".
use Rattle.std.specs.Prelude.{true, List, [], ℕ, ◌+◌, ◌-◌, ltb, length, take, drop, Option, Some, None, Result, Ok, Err}
use Rattle.terms.specs.Logic.{pick}
use Rattle.terms.specs.Refusals.{refusal_in}
use Rattle.label_spec.specs.Names.{sames}
use Rattle.label_spec.specs.Labels.{Walk, over, bad, label, from}
use Rattle.label_spec.specs.File.{labelled}
use Rattle.label_spec.specs.declared.Span.{Span}
use Rattle.label_spec.specs.declared.Places.{Places}
use Rattle.terms.specs.declared.Fault.{Fault}
use Rattle.terms.specs.declared.Refusal.{Refusal}
use Rattle.label_spec.specs.Parts.{span_of}

-- The place of the next label's `##`, a bad one's too, or the text's length.
unfoldable pub mark_of : ℕ → Walk → ℕ
mark_of len over = len
mark_of len (bad x rest) = x
mark_of len (label x n e v rest) = x

-- The text of the first record with the name w among the labels before the place stop, in a text of this length.
-- A bad label is none of them (it ends the text before it).
unfoldable pub record_of : ℕ → ℕ → List ℕ → Walk → Option Span
record_of len stop w over = None
record_of len stop w (bad x rest) = record_of len stop w rest
record_of len stop w (label x n e v rest) = pick (ltb x stop) (pick (sames v w) (Some (span_of (e + 1) (mark_of len rest))) (record_of len stop w rest)) None

unfoldable pub as_record : Option Span → Result (Option Span) Refusal
as_record f = Ok f

unfoldable pub record_in : List ℕ → List ℕ → Result Places Fault → Result (Option Span) Refusal
record_in s w (Ok y) = as_record (record_of (length s) y.end w (from s y.title true))
record_in s w (Err r) = Err (refusal_in s r.number r.place)

-- The record of a file with the name w, TITLE's own among them, END's not: it is looked for among the labels before END.
unfoldable pub record_for : List ℕ → List ℕ → Result (Option Span) Refusal
record_for s w = record_in s w (labelled s)

-- The part of the file that is its text; nothing where it is absent or the labels are refused.
unfoldable pub text_of : List ℕ → Result (Option Span) Refusal → List ℕ
text_of s (Ok (Some x)) = take (x.to - x.from) (drop x.from s)
text_of s (Ok None) = []
text_of s (Err r) = []
