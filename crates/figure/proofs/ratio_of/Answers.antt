-- `figure::ratio_of` meets its contract: the rounded quotient, up to the largest abscissa.
use mathlib.Core.Path.{refl}
use native.Mathlib.Omega.{arith}
use Rattle.decimal_spec.specs.Quotient.{quotient_of}
use Rattle.file_spec.specs.Figures.{ratio}
use Rattle.figure.proofs.FigureLaws.{rounded_in}
use Rattle.figure.proofs.ratio_of.Goals as goal

pub returns : goal.returns
unfolding ratio quotient_of
returns c = rw c.quotient.ensures (refl, rounded_in _ _ _ _ (omega arith))
