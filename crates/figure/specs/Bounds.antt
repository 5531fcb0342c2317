-- Bounds of the numbers that a record can spell, and of a quotient. Assumes nothing.
use Rattle.std.specs.Prelude.{◌<◌, ◌≤◌, Option, Some, None}
use Rattle.table_spec.specs.Frame.{largest_abscissa}
use Rattle.decimal_spec.specs.Number.{bound}
use Rattle.file_spec.specs.declared.Decimal.{Decimal}
use Rattle.decimal_spec.specs.declared.Whole.{Whole}

-- a decimal as it can be spelled
pub record Small (d : Decimal) : Type 0 where
  pub mantissa : d.mantissa < bound
  pub power : d.power < 300

-- where the text is a number
abbrev pub GivenIn : Option Decimal → Type 0
GivenIn (Some d) = Small d
GivenIn None = Unit

-- a factor: above zero too
pub record Factor (d : Decimal) : Type 0 where
  pub small : Small d
  pub some : 0 < d.mantissa

-- where it is a factor
abbrev pub FactorIn : Option Decimal → Type 0
FactorIn (Some d) = Factor d
FactorIn None = Unit

-- a quotient that is not beyond the largest abscissa
abbrev pub RoundedIn : Option Whole → Type 0
RoundedIn (Some x) = x.size ≤ largest_abscissa
RoundedIn None = Unit
