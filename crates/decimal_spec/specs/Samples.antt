-- Samples of numbers and of quotients: a table of each, and one theorem about the definitions by computation. Assumes nothing.
use Rattle.std.specs.Prelude.{◌≡◌, refl, Bool, true, false, List, [], ◌∷◌, map, ℕ, zero, suc, ◌*◌, ◌^◌, eqb, Option, Some, None}
use Prim.Native.String.{String, len, char_at}
use Prim.Native.Char.{code}
use Rattle.terms.specs.Logic.{pick}
use Rattle.alphabet_spec.specs.Digits.{digits}
use Rattle.decimal_spec.specs.Number.{mantissa_of, behind_point, before_point, mantissa_at, power_of, exponent_at, raised, unsigned, number_at, count_of, count_at}
use Rattle.decimal_spec.specs.declared.Quotient.{Quotient}
use Rattle.decimal_spec.specs.Quotient.{nearest, rounded_of, exact_of, quotient_of}
use Rattle.decimal_spec.specs.declared.Number.{Number}
use Rattle.decimal_spec.specs.declared.Count.{Count}
use Rattle.decimal_spec.specs.declared.Whole.{Whole}
use Rattle.decimal_spec.specs.Parts.{number_with, count_with, whole_with}

-- the bytes of a text of ASCII: n of them from the place i, and all of them
abbrev pub part : String → ℕ → ℕ → List ℕ
part s zero i = []
part s (suc n) i = code (char_at s i) ∷ part s n (suc i)

abbrev pub bytes : String → List ℕ
bytes s = part s (len s) 0

-- ---- numbers

-- a text that is a number from its start to its end: the sign, the mantissa and the power, where 200 is none; or a text that is no number
pub data Spelling : Type 0 where
  is : String → Bool → ℕ → ℕ → Spelling
  is_none : String → Spelling

abbrev pub spellings : List Spelling
spellings =
    is "1." false 1 200 ∷
    is ".5" false 5 199 ∷
    is "+1" false 1 200 ∷
    is "-0" true 0 200 ∷
    is "1E+005" false 1 205 ∷
    is "1E+099" false 1 299 ∷
    is "-1.50E-03" true 150 195 ∷
    is "000000000001" false 1 200 ∷
    is "999999999E+99" false 999999999 299 ∷
    is ".000000000001E-99" false 1 89 ∷
    is_none "" ∷
    is_none "." ∷
    is_none "+" ∷
    is_none "+-1" ∷
    is_none "1..5" ∷
    is_none "1 5" ∷
    is_none "E+05" ∷
    is_none "1E5" ∷
    is_none "1E+5" ∷
    is_none "1e+05" ∷
    is_none "1E+100" ∷
    is_none "1E+0005" ∷
    is_none "1.000000000" ∷
    is_none "0000000000001" ∷
    is_none "000000.0000001" ∷
    []

abbrev pub meant : Spelling → Option Number
meant (is s minus m e) = Some (number_with minus m e (len s))
meant (is_none s) = None

-- what is read in a text of n bytes, if it reaches the end
abbrev pub whole : ℕ → Option Number → Option Number
whole n (Some x) = pick (eqb x.end n) (Some (number_with x.minus x.mantissa x.power x.end)) None
whole n None = None

abbrev pub found : Spelling → Option Number
found (is s minus m e) = whole (len s) (number_at (bytes s) 0)
found (is_none s) = whole (len s) (number_at (bytes s) 0)

pub spellings_hold : map found spellings ≡ map meant spellings
unfolding mantissa_of behind_point before_point mantissa_at power_of exponent_at raised unsigned number_at digits
spellings_hold = refl

-- ---- digits only, as NPOINTS

pub data Counting : Type 0 where
  counts : String → ℕ → Counting
  counts_none : String → Counting

abbrev pub countings : List Counting
countings =
    counts "4" 4 ∷
    counts "0" 0 ∷
    counts "000000065536" 65536 ∷
    counts "999999999" 999999999 ∷
    counts_none "" ∷
    counts_none "+4" ∷
    counts_none "4." ∷
    counts_none "4E+00" ∷
    counts_none "1000000000" ∷
    counts_none "0000000000004" ∷
    []

abbrev pub count_meant : Counting → Option Count
count_meant (counts s v) = Some (count_with v (len s))
count_meant (counts_none s) = None

abbrev pub count_whole : ℕ → Option Count → Option Count
count_whole n (Some x) = pick (eqb x.end n) (Some (count_with x.value x.end)) None
count_whole n None = None

abbrev pub count_found : Counting → Option Count
count_found (counts s v) = count_whole (len s) (count_at (bytes s) 0)
count_found (counts_none s) = count_whole (len s) (count_at (bytes s) 0)

pub countings_hold : map count_found countings ≡ map count_meant countings
unfolding count_of count_at digits
countings_hold = refl

-- ---- quotients

-- a sign, m1 times ten to the e1 by m2 times ten to the e2, exponents counted from -200 on as a number's are, the answer within ten digits, and whether it is exact
pub data Division : Type 0 where
  gives : Bool → ℕ → ℕ → ℕ → ℕ → Option Whole → Bool → Division

abbrev pub divisions : List Division
divisions =
    -- FIRSTX to thousandths, its power raised by three, where XFACTOR is 1: 0.0005, -0.0005, 0.0015, -0.0015, -0.0016, 1E-99; 0E-99 is exact
    gives false 5 199 1 200 (Some (whole_with false 1)) false ∷
    gives true 5 199 1 200 (Some (whole_with false 0)) false ∷
    gives false 15 199 1 200 (Some (whole_with false 2)) false ∷
    gives true 15 199 1 200 (Some (whole_with true 1)) false ∷
    gives true 16 199 1 200 (Some (whole_with true 2)) false ∷
    gives false 1 104 1 200 (Some (whole_with false 0)) false ∷
    gives false 0 104 1 200 (Some (whole_with false 0)) true ∷
    -- 0.0010, whose last digit is no thousandth, and -0.0020
    gives false 10 199 1 200 (Some (whole_with false 1)) true ∷
    gives true 20 199 1 200 (Some (whole_with true 2)) true ∷
    -- FIRSTX = 1 where XFACTOR is 3, 0.3, 7E+99, 8; 1E-99 where it is 1E-99
    gives false 1 203 3 200 (Some (whole_with false 333)) false ∷
    gives false 1 203 3 199 (Some (whole_with false 3333)) false ∷
    gives false 1 203 7 299 (Some (whole_with false 0)) false ∷
    gives false 1 203 8 200 (Some (whole_with false 125)) true ∷
    gives false 1 104 1 101 (Some (whole_with false 1000)) true ∷
    -- about the limit: 9999999.99, 1E+07, 1E+99, -0E+99
    gives false 999999999 201 1 200 (Some (whole_with false 9999999990)) true ∷
    gives false 1 210 1 200 None false ∷
    gives false 1 302 1 200 None false ∷
    gives true 0 302 1 200 (Some (whole_with false 0)) true ∷
    -- the same with more digits than a file can give: 9999999.9994, 9999999.9995, -9999999.9995, -9999999.9996
    gives false 99999999994 199 1 200 (Some (whole_with false 9999999999)) false ∷
    gives false 99999999995 199 1 200 None false ∷
    gives true 99999999995 199 1 200 (Some (whole_with true 9999999999)) false ∷
    gives true 99999999996 199 1 200 None false ∷
    -- to whole numbers: FIRSTY = 0.5 where YFACTOR is 0.1, and -5 where it is 2
    gives false 5 199 1 199 (Some (whole_with false 5)) true ∷
    gives true 5 200 2 200 (Some (whole_with true 2)) false ∷
    []

abbrev pub answer : Division → Quotient
answer (gives minus m1 e1 m2 e2 r x) = record { rounded = r; exact = x }

abbrev pub divided : Division → Quotient
divided (gives minus m1 e1 m2 e2 r x) = quotient_of 9999999999 minus (m1 * 10 ^ e1) (m2 * 10 ^ e2)

pub divisions_hold : map divided divisions ≡ map answer divisions
unfolding nearest rounded_of exact_of quotient_of
divisions_hold = refl
