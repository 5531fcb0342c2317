-- 02, T-13: the file that the converter makes, and reading a file as it was before, with tabs for blanks in its body. Assumes nothing.
use Rattle.std.specs.Prelude.{Bool, true, false, List, ◌++◌, ℕ, ◌-◌, take, drop, Option, Some, None}
use Rattle.table_spec.specs.Tabs.{spaced, read_before}
use Rattle.label_spec.specs.declared.Span.{Span}
use Rattle.file_spec.specs.Texts.{text_in}
use Rattle.file_spec.specs.Places.{found_body}
use Rattle.file_spec.specs.File.{FileAnswer, read_file_by}

-- one part of a text converted, as `spaced` has it, and every other byte kept
unfoldable pub spaced_in : List ℕ → Span → List ℕ
spaced_in s b = take b.from s ++ (spaced false (text_in s b) ++ drop (b.to - b.from) (drop b.from s))

unfoldable pub detabbed_at : List ℕ → Option Span → List ℕ
detabbed_at s None = s
detabbed_at s (Some b) = spaced_in s b

-- the converted file: its body converted; "in headers it may stay", so all else is kept, and a file without a body to be found is left as it is
abbrev pub detabbed : List ℕ → List ℕ
detabbed s = detabbed_at s (found_body s)

-- is there a body?
abbrev pub is_found : Option Span → Bool
is_found None = false
is_found (Some b) = true

-- how a file was read before (01, as it was)
abbrev pub read_file_before : List ℕ → ℕ → FileAnswer
read_file_before s space = read_file_by read_before s space
