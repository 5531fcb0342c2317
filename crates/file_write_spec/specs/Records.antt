-- 02, T-04: "Records are label, `=`, text, no blank added", one after another. Assumes nothing.
use Rattle.std.specs.Prelude.{List, [], ◌∷◌, ◌++◌, ℕ}

-- a record: its name, and its text with the line ends in it and after it
pub record Entry : Type 0 where
  pub name : List ℕ
  pub text : List ℕ

-- "CR LF ends"
abbrev pub crlf : List ℕ
crlf = 13 ∷ 10 ∷ []

-- `##`, the name, `=`, the text
unfoldable pub entry_text : Entry → List ℕ
entry_text r = 35 ∷ 35 ∷ (r.name ++ 61 ∷ r.text)

-- records in a row
unfoldable pub entries_text : List Entry → List ℕ
entries_text [] = []
entries_text (r ∷ rs) = entry_text r ++ entries_text rs

-- a record of one line
abbrev pub line : List ℕ → List ℕ → Entry
line w t = record { name = w; text = t ++ crlf }
