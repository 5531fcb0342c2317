-- How a number of a file is spelled, and what it is (01, The file, "Numbers"). Places count in the text s from 0. Assumes nothing.
use Rattle.std.specs.Prelude.{Bool, true, false, List, ℕ, ◌+◌, ◌-◌, ltb, eqb, get_or, drop, Option, Some, None}
use Rattle.terms.specs.Logic.{pick, both}
use Rattle.alphabet_spec.specs.Digits.{Run, long, run, digits}
use Rattle.decimal_spec.specs.declared.Mantissa.{Mantissa}
use Rattle.decimal_spec.specs.declared.Exponent.{Exponent}
use Rattle.decimal_spec.specs.declared.Number.{Number}
use Rattle.decimal_spec.specs.declared.Count.{Count}
use Rattle.decimal_spec.specs.Parts.{mantissa_with, exponent_with, number_with, count_with}

-- "1 to 12 digits"
abbrev pub most_digits : ℕ
most_digits = 12

-- "at most 9 from the first non-zero on": the number is below ten to the ninth
abbrev pub bound : ℕ
bound = 1000000000

-- powers of ten are counted from -200, which is below the least: -99, with twelve digits behind the point
abbrev pub origin : ℕ
origin = 200

-- n digits that make v, f of them behind the point, and then the place j
unfoldable pub mantissa_of : ℕ → ℕ → ℕ → ℕ → Option Mantissa
mantissa_of v n f j = pick (both (ltb 0 n) (ltb v bound)) (Some (mantissa_with v f j)) None

-- behind the point, which stands before the place i and after k digits
unfoldable pub behind_point : ℕ → ℕ → Run → Option Mantissa
behind_point k i long = None
behind_point k i (run v f) = mantissa_of v (k + f) f (i + f)

-- the first run of digits, from the place i
unfoldable pub before_point : List ℕ → ℕ → Run → Option Mantissa
before_point s i long = None
before_point s i (run v k) =
    pick (eqb (get_or s (i + k) 0) 46) (behind_point k (i + k + 1) (digits (drop (i + k + 1) s) (most_digits - k) v 0)) (mantissa_of v k 0 (i + k))

-- "digits with at most one point"
unfoldable pub mantissa_at : List ℕ → ℕ → Option Mantissa
mantissa_at s i = before_point s i (digits (drop i s) most_digits 0 0)

-- "two or three digits with value at most 99", from the place i
unfoldable pub power_of : Bool → ℕ → Run → Option Exponent
power_of minus i long = None
power_of minus i (run x k) = pick (both (ltb 1 k) (ltb x 100)) (Some (exponent_with (pick minus (origin - x) (origin + x)) (i + k))) None

-- "optionally E, a sign, two or three digits"
unfoldable pub exponent_at : List ℕ → ℕ → Option Exponent
exponent_at s i =
    pick (eqb (get_or s i 0) 69)
    (pick (eqb (get_or s (i + 1) 0) 43) (power_of false (i + 2) (digits (drop (i + 2) s) 3 0 0))
    (pick (eqb (get_or s (i + 1) 0) 45) (power_of true (i + 2) (digits (drop (i + 2) s) 3 0 0)) None))
    (Some (exponent_with origin i))

-- mantissa and exponent together: the digits behind the point lower the power
unfoldable pub raised : Bool → ℕ → ℕ → Option Exponent → Option Number
raised minus v f None = None
raised minus v f (Some x) = Some (number_with minus v (x.power - f) x.end)

-- a number without its sign, by its mantissa
unfoldable pub unsigned : List ℕ → Bool → Option Mantissa → Option Number
unsigned s minus None = None
unsigned s minus (Some x) = raised minus x.value x.behind (exponent_at s x.end)

-- the number at the place i: "optional sign" and the rest
unfoldable pub number_at : List ℕ → ℕ → Option Number
number_at s i =
    pick (eqb (get_or s i 0) 43) (unsigned s false (mantissa_at s (i + 1)))
    (pick (eqb (get_or s i 0) 45) (unsigned s true (mantissa_at s (i + 1))) (unsigned s false (mantissa_at s i)))

-- a run of digits only, from the place i, within the same limits
unfoldable pub count_of : ℕ → Run → Option Count
count_of i long = None
count_of i (run v k) = pick (both (ltb 0 k) (ltb v bound)) (Some (count_with v (i + k))) None

-- "NPOINTS is digits only": no sign, point or exponent
unfoldable pub count_at : List ℕ → ℕ → Option Count
count_at s i = count_of i (digits (drop i s) most_digits 0 0)
