-- What the functions that read the digits of a number ensure: that the answer is the defined one, and the bounds of its parts, which callers need. Assumes nothing.
use Rattle.std.specs.Prelude.{◌≡◌, List, ℕ, ◌<◌, ◌≤◌, length, Option, Some, None}
use Rattle.decimal_spec.specs.Number.{most_digits, bound, mantissa_at, count_at}
use Rattle.decimal_spec.specs.declared.Mantissa.{Mantissa}
use Rattle.decimal_spec.specs.declared.Count.{Count}

-- the bounds of each answer; len is the text's length, which no place passes
abbrev pub MantissaIn : ℕ → Option Mantissa → Type 0
MantissaIn len (Some x) = (x.value < bound) × (x.behind ≤ most_digits) × (x.end ≤ len)
MantissaIn len None = Unit

abbrev pub count_in : ℕ → Option Count → Type 0
count_in len (Some x) = (x.value < bound) × (x.end ≤ len)
count_in len None = Unit

-- what each function finds at a place of the text s
pub record MantissaFound (s : List ℕ) (at : ℕ) (r : Option Mantissa) : Type 0 where
  pub says : r ≡ mantissa_at s at
  pub good : MantissaIn (length s) r

pub record CountFound (s : List ℕ) (at : ℕ) (r : Option Count) : Type 0 where
  pub says : r ≡ count_at s at
  pub good : count_in (length s) r
