-- Digits that are spelled, from the number to the bytes (01, "Head", "Values" and The file, "Numbers"). Spelling rests on this; it takes no text apart. Assumes nothing.
use Rattle.std.specs.Prelude.{List, ◌∷◌, ℕ, suc, ◌+◌, ◌*◌, ◌<◌}

-- n digits, which after the number v make the number w, and then the text s; leading zeros are digits like others
pub data SpelledDigits : ℕ → ℕ → ℕ → List ℕ → List ℕ → Type 0 where
  none : {v : ℕ} {s : List ℕ} → SpelledDigits 0 v v s s
  more : {n v w d : ℕ} {t s : List ℕ} → d < 10 → SpelledDigits n (v * 10 + d) w t s → SpelledDigits (suc n) v w ((48 + d) ∷ t) s
