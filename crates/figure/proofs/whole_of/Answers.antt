-- `figure::whole_of` meets its contract: 64 bits hold the size with either sign.
use mathlib.Core.Path.{refl}
use mir.Facts.{to_z-of_z}
use Rattle.figure.proofs.FigureLaws.{wide, minus_is, minus_fits}
use Rattle.figure.proofs.whole_of.Goals as goal

pub overflow_sub-result : goal.overflow_sub-result
overflow_sub-result c = let u = c.args.size in let h = c.requires in rw (wide u h, minus_is u) (minus_fits u h)

pub returns-then-minus : goal.returns-then-minus
returns-then-minus c = let u = c.args.size in let h = c.requires in rw (wide u h, minus_is u, to_z-of_z (minus_fits u h), c.if-minus.true) refl

pub returns : goal.returns
returns c = let u = c.args.size in let h = c.requires in rw (wide u h, c.if-minus.false) refl
