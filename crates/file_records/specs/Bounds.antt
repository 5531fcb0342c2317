-- Bounds of the six numbers, which callers need. Assumes nothing.
use Rattle.std.specs.Prelude.{ℕ, ◌<◌, Result, Ok, Err}
use Rattle.decimal_spec.specs.Number.{bound}
use Rattle.figure.specs.Bounds.{Small, Factor}
use Rattle.file_spec.specs.declared.Decimal.{Decimal}
use Rattle.file_spec.specs.declared.Needed.{Needed}
use Rattle.file_spec.specs.declared.Numbers.{Numbers}
use Rattle.file_gather.specs.Bounds.{AllWithin}

-- the numbers after the factors can be read: each text lies in the file, and the factors are as they can be spelled
pub record FactorsRead (len : ℕ) (x : Needed) (xf yf : Decimal) : Type 0 where
  pub within : AllWithin len x
  pub xfactor : Factor xf
  pub yfactor : Factor yf

-- each of the six numbers as it can be spelled
pub record AllSmall (n : Numbers) : Type 0 where
  pub xfactor : Factor n.xfactor
  pub yfactor : Factor n.yfactor
  pub firstx : Small n.firstx
  pub lastx : Small n.lastx
  pub npoints : n.npoints < bound
  pub firsty : Small n.firsty

-- where none is wrong
abbrev pub FiguresIn : Result Numbers ℕ → Type 0
FiguresIn (Ok n) = AllSmall n
FiguresIn (Err a) = Unit
