-- The pseudo-digits, from a kind and a digit to the byte (01, "Values"; document 001, Table 1). Spelling rests on this; it takes no text apart.
-- Assumes nothing.
use Rattle.std.specs.Prelude.{Bool, true, false, ℕ, ◌+◌, ◌<◌}

-- the kinds of value that begin with a pseudo-digit; true: minus
pub data Lead : Type 0 where
  sqz dif : Bool → Lead
  dup : Lead

-- the byte of a kind's digit: @ABCDEFGHI, abcdefghi, %JKLMNOPQR, jklmnopqr, STUVWXYZs
pub data Pseudo : Lead → ℕ → ℕ → Type 0 where
  sqz_up : {d : ℕ} → d < 10 → Pseudo (sqz false) d (64 + d)
  sqz_down : {d : ℕ} → 0 < d → d < 10 → Pseudo (sqz true) d (96 + d)
  dif_zero : Pseudo (dif false) 0 37
  dif_up : {d : ℕ} → 0 < d → d < 10 → Pseudo (dif false) d (73 + d)
  dif_down : {d : ℕ} → 0 < d → d < 10 → Pseudo (dif true) d (105 + d)
  dup_low : {d : ℕ} → 0 < d → d < 9 → Pseudo dup d (82 + d)
  dup_nine : Pseudo dup 9 115

-- 01, "Spelling of a body": blanks are space and tab; 02, T-13: "Demand 3's blanks are spaces only". The argument says whether a tab is one
pub data Blank : Bool → ℕ → Type 0 where
  space : {tabs : Bool} → Blank tabs 32
  tab : Blank true 9

-- a tab in a body is no blank any more (02, T-13); this is the one place that says so
abbrev pub tabs_too : Bool
tabs_too = false
