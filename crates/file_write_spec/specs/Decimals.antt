-- 02, T-04: "decimals are spelled one way only: mantissa, `E`, sign (`+` for zero), two digits", and which decimals are taken. Assumes nothing.
use Rattle.std.specs.Prelude.{Bool, true, false, List, [], ◌∷◌, ◌++◌, ℕ, suc, ◌+◌, ◌/◌, ◌%◌, ltb, ℤ, pos, negsuc, nat_abs}
use Rattle.terms.specs.Logic.{pick, both}
use Rattle.table_spec.specs.Frame.{lift}
use Rattle.table_spec.specs.Groups.{plain_text}
use Rattle.decimal_spec.specs.Number.{bound, origin}
use Rattle.file_spec.specs.declared.Decimal.{Decimal}
use Rattle.file_write_spec.specs.declared.GivenDecimal.{GivenDecimal}

-- ---- the text, mantissa and exponent as given

-- the digits of the mantissa, a sign only if it is negative
unfoldable pub mantissa_text : ℤ → List ℕ
mantissa_text (pos v) = plain_text v
mantissa_text (negsuc v) = 45 ∷ plain_text (suc v)

-- "two digits"
abbrev pub two_digits : ℕ → List ℕ
two_digits x = (48 + x / 10) ∷ (48 + x % 10) ∷ []

-- "`E`, sign (`+` for zero), two digits"
unfoldable pub exponent_text : ℤ → List ℕ
exponent_text (pos x) = 69 ∷ 43 ∷ two_digits x
exponent_text (negsuc x) = 69 ∷ 45 ∷ two_digits (suc x)

-- so `10E-01`, `0E+07`
unfoldable pub decimal_text : GivenDecimal → List ℕ
decimal_text d = mantissa_text d.mantissa ++ exponent_text d.exponent

-- ---- the decimal that it is

-- is a number below zero?
abbrev pub negative : ℤ → Bool
negative (pos n) = false
negative (negsuc n) = true

-- as the reader has it: the sign beside the mantissa, the power of ten counted from its origin on
abbrev pub decimal_of : GivenDecimal → Decimal
decimal_of d = record { minus = negative d.mantissa; mantissa = nat_abs d.mantissa; power = lift origin d.exponent }

-- ---- 26

-- "whole mantissa of at most 9 digits, exponent of at most 99 in magnitude"
unfoldable pub decimal_taken : GivenDecimal → Bool
decimal_taken d = both (ltb (nat_abs d.mantissa) bound) (ltb (nat_abs d.exponent) 100)

-- 01: "XFACTOR and YFACTOR exceed zero"
unfoldable pub factor_taken : GivenDecimal → Bool
factor_taken d = both (decimal_taken d) (both (pick (negative d.mantissa) false true) (ltb 0 (nat_abs d.mantissa)))
