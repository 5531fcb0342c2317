-- What the functions that read a number ensure: that the answer is the defined one, and the bounds of its parts, which callers need. Assumes nothing.
use Rattle.std.specs.Prelude.{◌≡◌, Bool, List, ℕ, ◌<◌, ◌≤◌, length, Option, Some, None}
use Rattle.decimal_spec.specs.Number.{bound, mantissa_at, unsigned, number_at}
use Rattle.decimal_spec.specs.declared.Number.{Number}

-- the bounds of each answer; len is the text's length, which no place passes
abbrev pub number_in : ℕ → Option Number → Type 0
number_in len (Some x) = (x.mantissa < bound) × (x.power < 300) × (x.end ≤ len)
number_in len None = Unit

-- what each function finds at a place of the text s
pub record UnsignedFound (s : List ℕ) (at : ℕ) (minus : Bool) (r : Option Number) : Type 0 where
  pub says : r ≡ unsigned s minus (mantissa_at s at)
  pub good : number_in (length s) r

pub record NumberFound (s : List ℕ) (at : ℕ) (r : Option Number) : Type 0 where
  pub says : r ≡ number_at s at
  pub good : number_in (length s) r
