-- Heads that are spelled and heads that are read, both ways (01, "Head. Optional sign, 1 to 7 digits, then optionally a point and 0 to 3 digits"). Assumes nothing.
use Rattle.std.specs.Prelude.{◌≡◌, refl, Bool, true, false, List, [], ◌∷◌, ℕ, suc, ◌*◌, ◌≤◌, ◌<◌, drop}
use Rattle.alphabet_spec.specs.Bytes.{Byte, digit, lead, sign, quest, blank, point, lf, cr, dollar, other, kind}
use Rattle.alphabet_spec.specs.SpelledDigits.{SpelledDigits}
use Rattle.table_spec.specs.Values.{headed_at}
use Rattle.table_spec.specs.Reading.{HeadDigits, no_head, sized, Mode, tokens}
use Rattle.table_law.specs.Spelling.{LastPlace, Magnitude, Head}
use Rattle.table_law.specs.Runs.{Past, here, byte}

-- ---- texts that do not make a head or a number before them longer: they begin with neither a digit nor a point

abbrev pub lengthens : Byte → Bool
lengthens (digit d) = true
lengthens (lead k d) = false
lengthens (sign m) = false
lengthens quest = false
lengthens blank = false
lengthens point = true
lengthens lf = false
lengthens cr = false
lengthens dollar = false
lengthens other = false

abbrev pub Apart : Bool → List ℕ → Type 0
Apart tabs [] = Unit {0}
Apart tabs (b ∷ s) = lengthens (kind tabs b) ≡ false

-- ---- a head's digits: a whole number w of 1 to 7 digits, and what follows it: a point and at most 3 digits, or none

pub data Following : ℕ → ℕ → ℕ → List ℕ → List ℕ → Type 0 where
  no_point : {w x : ℕ} {s : List ℕ} → LastPlace 0 x → Following w (w * x) x s s
  a_point : {k w v x : ℕ} {u s : List ℕ} → SpelledDigits k w v u s → LastPlace k x → Following w (v * x) x (46 ∷ u) s

pub record Parts (h x : ℕ) (t s : List ℕ) : Type 0 where
  pub whole_number : ℕ
  pub count : ℕ
  pub between : List ℕ
  pub some_digit : 0 < count
  pub few : count ≤ 7
  pub before : SpelledDigits count 0 whole_number t between
  pub behind : Following whole_number h x between s

-- ---- a head that is spelled is read

-- bytes that are passed over
pub skip : (tabs : Bool) {k : ℕ} {t s : List ℕ} → Past k t s → (a : ℕ) (m : Mode) → (c : ℕ) × (tokens tabs t k a m ≡ tokens tabs s 0 c m)
unfolding tokens
skip tabs here a m = (a, refl)
skip tabs (byte r) a m = skip tabs r (suc a) m

-- the digits of a head are at the front of t, so many bytes of s belong to them
abbrev pub MagnitudeIs : List ℕ → List ℕ → HeadDigits → Type 0
MagnitudeIs t s no_head = Unit {0}
MagnitudeIs t s (sized h x k) = Magnitude h x t (drop k s)

-- a head of the sign m, whose first byte is b
abbrev pub HeadIs : Bool → ℕ → List ℕ → HeadDigits → Type 0
HeadIs m b s no_head = Unit {0}
HeadIs m b s (sized h x k) = Head (headed_at m h) x (b ∷ s) (drop k s)
