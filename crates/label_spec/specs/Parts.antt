-- What is found in a file, by its parts. Assumes nothing.
use Rattle.std.specs.Prelude.{ℕ}
use Rattle.label_spec.specs.declared.Span.{Span}
use Rattle.label_spec.specs.declared.Edges.{Edges}
use Rattle.label_spec.specs.declared.Places.{Places}

-- the part of a text from one place up to another
abbrev pub span_of : ℕ → ℕ → Span
span_of a b = record { from = a; to = b }

-- the places of a label's `##` and of its `=`
abbrev pub edges_with : ℕ → ℕ → Edges
edges_with a b = record { mark = a; eq = b }

-- the places of TITLE's `##` and `=` and of END's `##`
abbrev pub places_with : ℕ → ℕ → ℕ → Places
places_with a b c = record { title = a; eq = b; end = c }
