-- A part of a text, and bounds of what it says. Assumes nothing.
use Rattle.std.specs.Prelude.{ℕ, ◌+◌, ◌≤◌, leb, eqb, get_or, Option, Some, None}
use Rattle.terms.specs.Logic.{pick}
use Rattle.file_spec.specs.Texts.{spacing, LIST}
use Rattle.label_spec.specs.declared.Span.{Span}

-- a part of a text of that length
pub record Within (len : ℕ) (t : Span) : Type 0 where
  pub low : t.from ≤ t.to
  pub high : t.to ≤ len

-- the body's start lies within the text of its record, which is so long
abbrev pub ListedWithin : ℕ → Option ℕ → Type 0
ListedWithin len (Some i) = i ≤ len
ListedWithin len None = Unit

-- how much of the list stands after the byte b, with c after it; 12 where it does not
abbrev pub list_step : ℕ → ℕ → ℕ → ℕ
list_step b c k = pick (spacing b c) k (pick (leb 11 k) 12 (pick (eqb b (get_or LIST k 0)) (k + 1) 12))
