-- Numbers as they are read, by their parts. Assumes nothing.
use Rattle.std.specs.Prelude.{Bool, ℕ}
use Rattle.decimal_spec.specs.declared.Mantissa.{Mantissa}
use Rattle.decimal_spec.specs.declared.Exponent.{Exponent}
use Rattle.decimal_spec.specs.declared.Number.{Number}
use Rattle.decimal_spec.specs.declared.Count.{Count}
use Rattle.decimal_spec.specs.declared.Whole.{Whole}

-- a mantissa: its number, how many digits stand behind the point, and the place after it
abbrev pub mantissa_with : ℕ → ℕ → ℕ → Mantissa
mantissa_with a b c = record { value = a; behind = b; end = c }

-- an exponent: its power of ten, counted from -200, and the place after it
abbrev pub exponent_with : ℕ → ℕ → Exponent
exponent_with a b = record { power = a; end = b }

-- a number: its sign, its mantissa, its power of ten, and the place after it
abbrev pub number_with : Bool → ℕ → ℕ → ℕ → Number
number_with a b c d = record { minus = a; mantissa = b; power = c; end = d }

-- a number of digits only, and the place after it
abbrev pub count_with : ℕ → ℕ → Count
count_with a b = record { value = a; end = b }

-- a whole number: its sign and its size
abbrev pub whole_with : Bool → ℕ → Whole
whole_with a b = record { minus = a; size = b }
