-- Bytes that are passed over. Assumes nothing.
use Rattle.std.specs.Prelude.{◌≡◌, refl, List, ◌∷◌, ℕ, suc, ◌+◌, drop}
use Rattle.std.proofs.Common.{zero-add, suc-add}
use Rattle.alphabet_spec.specs.SpelledDigits.{SpelledDigits, none, more}

-- k bytes of t stand before s
pub data Past : ℕ → List ℕ → List ℕ → Type 0 where
  here : {s : List ℕ} → Past 0 s s
  byte : {k b : ℕ} {t s : List ℕ} → Past k t s → Past (suc k) (b ∷ t) s

pub past_drop : {k : ℕ} {t s : List ℕ} → Past k t s → drop k t ≡ s
past_drop here = refl
past_drop (byte r) = past_drop r

pub past_past : {j k : ℕ} {t u s : List ℕ} → Past j t u → Past k u s → Past (j + k) t s
past_past {k = k} here r = rw (zero-add k) r
past_past {k = k} (byte {k = j} h) r = rw (suc-add j k) (byte (past_past h r))

pub digits_past : {n v w : ℕ} {t s : List ℕ} → SpelledDigits n v w t s → Past n t s
digits_past none = here
digits_past (more l r) = byte (digits_past r)
