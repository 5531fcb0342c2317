-- What the search for TITLE ensures besides the definitions of label_spec: where its answer lies. Assumes nothing.
use Rattle.std.specs.Prelude.{◌≡◌, true, false, List, ℕ, ◌+◌, ◌<◌, ◌≤◌, length, Result, Ok, Err}
use Rattle.label_spec.specs.Names.{name_in, TITLE}
use Rattle.label_spec.specs.Labels.{label, from}
use Rattle.label_spec.specs.declared.Edges.{Edges}
use Rattle.terms.specs.declared.Fault.{Fault}

-- TITLE's label stands there, first on its line, with `##` at m and `=` at e.
pub record TitleAt (s : List ℕ) (m e : ℕ) : Type 0 where
  pub low : m + 2 ≤ e
  pub high : e < length s
  pub name : name_in s (m + 2) e ≡ TITLE
  pub law : from s m true ≡ label m (m + 2) e (name_in s (m + 2) e) (from s (e + 1) false)

-- The places of each answer lie in the file.
abbrev pub OpenIn : List ℕ → Result Edges Fault → Type 0
OpenIn s (Ok x) = TitleAt s x.mark x.eq
OpenIn s (Err r) = r.place ≤ length s
