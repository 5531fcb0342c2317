-- 02, T-13: the converter's text, and reading as it was before, with tabs for blanks. Assumes nothing.
use Rattle.std.specs.Prelude.{Bool, true, false, List, [], ◌∷◌, ℕ, eqb, leb, ltb, ℤ, length}
use Rattle.terms.specs.Logic.{pick, both}
use Rattle.table_spec.specs.Frame.{Rules, rules, longest_body, frame_legal, abscissa}
use Rattle.table_spec.specs.Reading.{starts, Answer, refuse, read}

-- within a comment after the byte b, with s after it? A line's first `$$` starts it, LF ends it
abbrev pub commented : Bool → ℕ → List ℕ → Bool
commented true b s = pick (eqb b 10) false true
commented false b s = both (eqb b 36) (starts 36 s)

-- "replaces such tabs by one space each, keeps every other byte": a byte outside a comment, and in one
abbrev pub changed : Bool → ℕ → ℕ
changed true b = b
changed false b = pick (eqb b 9) 32 b

-- the converted text, of one that begins within a comment, or not
unfoldable pub spaced : Bool → List ℕ → List ℕ
spaced c [] = []
spaced c (b ∷ s) = changed c b ∷ spaced (commented c b s) s

-- the rules of before, by which a tab is a blank
abbrev pub with_tabs : Rules → Rules
with_tabs R = record { points = R.points; passing = R.passing; tabs = true }

-- how a table was read before (01, as it was): F, L and N as they come, the body, and the room
unfoldable pub read_before : ℤ → ℤ → ℕ → List ℕ → ℕ → Answer
read_before f l n s space =
    pick (both (frame_legal f l n) (leb (length s) longest_body)) (pick (ltb space n) (refuse 2 0) (read (with_tabs (rules (abscissa f) (abscissa l) n)) s)) (refuse 1 0)
