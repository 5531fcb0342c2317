-- What the functions that read an exponent ensure: that the answer is the defined one, and the bounds of its parts, which callers need. Assumes nothing.
use Rattle.std.specs.Prelude.{◌≡◌, Bool, List, ℕ, ◌<◌, ◌≤◌, length, drop, Option, Some, None}
use Rattle.alphabet_spec.specs.Digits.{digits}
use Rattle.decimal_spec.specs.Number.{power_of, exponent_at}
use Rattle.decimal_spec.specs.declared.Exponent.{Exponent}

-- the bounds of each answer; len is the text's length, which no place passes
abbrev pub ExponentIn : ℕ → Option Exponent → Type 0
ExponentIn len (Some x) = (101 ≤ x.power) × (x.power < 300) × (x.end ≤ len)
ExponentIn len None = Unit

-- what each function finds at a place of the text s
pub record PowerFound (s : List ℕ) (at : ℕ) (minus : Bool) (r : Option Exponent) : Type 0 where
  pub says : r ≡ power_of minus at (digits (drop at s) 3 0 0)
  pub good : ExponentIn (length s) r

pub record ExponentFound (s : List ℕ) (at : ℕ) (r : Option Exponent) : Type 0 where
  pub says : r ≡ exponent_at s at
  pub good : ExponentIn (length s) r
