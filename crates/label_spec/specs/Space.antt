-- 01, Spelling of a body and The file: blanks, line ends (LF or CR LF) and comments (`$$` up to the line's end), which are passed over
-- before TITLE and around numbers. A lone CR and a lone `$` are none of them.
use Rattle.std.specs.Prelude.{Bool, true, false, not, List, [], ◌∷◌, ℕ, ◌+◌, eqb, get_or, drop}
use Rattle.terms.specs.Logic.{pick}
use Rattle.label_spec.specs.Names.{blank}

-- A blank or LF.
unfoldable pub space : ℕ → Bool
space b = pick (blank b) true (eqb b 10)

-- Does b, with c after it, open what runs to the line's end: CR before LF, or `$$`?
unfoldable pub opens : ℕ → ℕ → Bool
opens b c = pick (eqb b 13) (eqb c 10) (pick (eqb b 36) (eqb c 36) false)

-- The place of the first byte that is none of them, in a text that stands from the place i on. The mode: is all passed over up to the next LF?
unfoldable pub past : List ℕ → ℕ → Bool → ℕ
past [] i t = i
past (b ∷ s) i true = past s (i + 1) (not (eqb b 10))
past (b ∷ s) i false = pick (space b) (past s (i + 1) false) (pick (opens b (get_or s 0 0)) (past s (i + 1) true) i)

-- The same in a file from the place i on.
unfoldable pub past_at : List ℕ → ℕ → Bool → ℕ
past_at s i t = past (drop i s) i t

-- The place after blanks, line ends and comments, from the place i on.
abbrev pub past_space : List ℕ → ℕ → ℕ
past_space s i = past_at s i false
