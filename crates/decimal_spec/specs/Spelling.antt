-- Which texts spell which numbers, said from the number to the bytes (01, The file, "Numbers"). Nothing here takes a text apart. Assumes nothing.
-- `R x t s`: the text t is x, spelled, and then s. SpellingLaws has that these are the texts that `number_at` reads.
use Rattle.std.specs.Prelude.{Bool, true, false, List, ◌∷◌, ℕ, ◌+◌, ◌-◌, ◌≤◌, ◌<◌}
use Rattle.alphabet_spec.specs.SpelledDigits.{SpelledDigits}
use Rattle.decimal_spec.specs.Number.{most_digits, bound, origin}

-- "digits with at most one point (1 to 12 digits, at most 9 from the first non-zero on)": the number v, with f of its digits behind the point
pub data SpelledMantissa : ℕ → ℕ → List ℕ → List ℕ → Type 0 where
  whole : {n v : ℕ} {t s : List ℕ} → 0 < n → n ≤ most_digits → v < bound → SpelledDigits n 0 v t s → SpelledMantissa v 0 t s
  pointed : {n f w v : ℕ} {t u s : List ℕ}
      → 0 < n + f → n + f ≤ most_digits → v < bound → SpelledDigits n 0 w t (46 ∷ u) → SpelledDigits f w v u s → SpelledMantissa v f t s

-- "optionally `E`, a sign, two or three digits with value at most 99": the power of ten, counted from the origin on
pub data SpelledExponent : ℕ → List ℕ → List ℕ → Type 0 where
  absent : {s : List ℕ} → SpelledExponent origin s s
  up : {n x : ℕ} {t s : List ℕ} → 1 < n → n ≤ 3 → x < 100 → SpelledDigits n 0 x t s → SpelledExponent (origin + x) (69 ∷ 43 ∷ t) s
  down : {n x : ℕ} {t s : List ℕ} → 1 < n → n ≤ 3 → x < 100 → SpelledDigits n 0 x t s → SpelledExponent (origin - x) (69 ∷ 45 ∷ t) s

-- "optional sign", digits and exponent: true for minus, the mantissa, and the power of ten that is left to its last digit
pub data SpelledNumber : Bool → ℕ → ℕ → List ℕ → List ℕ → Type 0 where
  plain : {v f p : ℕ} {t u s : List ℕ} → SpelledMantissa v f t u → SpelledExponent p u s → SpelledNumber false v (p - f) t s
  plus : {v f p : ℕ} {t u s : List ℕ} → SpelledMantissa v f t u → SpelledExponent p u s → SpelledNumber false v (p - f) (43 ∷ t) s
  minus : {v f p : ℕ} {t u s : List ℕ} → SpelledMantissa v f t u → SpelledExponent p u s → SpelledNumber true v (p - f) (45 ∷ t) s

-- "NPOINTS is digits only"
pub data SpelledCount : ℕ → List ℕ → List ℕ → Type 0 where
  only : {n v : ℕ} {t s : List ℕ} → 0 < n → n ≤ most_digits → v < bound → SpelledDigits n 0 v t s → SpelledCount v t s
