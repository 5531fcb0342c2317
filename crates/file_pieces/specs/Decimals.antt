-- The text of a decimal of a written file, said of the decimal as the reader has it (02, T-04). Assumes nothing.
use Rattle.std.specs.Prelude.{List, ◌∷◌, ◌++◌, ℕ, ◌-◌, ◌<◌, leb}
use Rattle.terms.specs.Logic.{pick}
use Rattle.table_spec.specs.Groups.{plain_text}
use Rattle.decimal_spec.specs.Number.{bound, origin}
use Rattle.file_spec.specs.declared.Decimal.{Decimal}
use Rattle.file_write_spec.specs.Decimals.{two_digits}

-- the text of a power of ten, counted from the origin on
unfoldable pub power_text : ℕ → List ℕ
power_text p = 69 ∷ pick (leb origin p) (43 ∷ two_digits (p - origin)) (45 ∷ two_digits (origin - p))

-- the text of a decimal
unfoldable pub text_of : Decimal → List ℕ
text_of d = pick d.minus (45 ∷ plain_text d.mantissa) (plain_text d.mantissa) ++ power_text d.power

-- "whole mantissa of at most 9 digits, exponent of at most 99 in magnitude"
pub record Writable (d : Decimal) : Type 0 where
  pub mantissa : d.mantissa < bound
  pub low : 100 < d.power
  pub high : d.power < 300
