-- `signed::entry_for` meets its contract: the entry of the slice for an ordinate.
use mathlib.Core.Path.{refl}
use mir.Facts.{to_z-of_z}
use Rattle.signed.specs.Scale.{entry_fits, entry_wide, wide}
use Rattle.signed.proofs.entry_for.Goals as goal

pub overflow_sub-w : goal.overflow_sub-w
overflow_sub-w c = rw (wide c.args.u c.requires) (entry_wide c.args.u c.requires)

pub overflow_cast-result : goal.overflow_cast-result
overflow_cast-result c = rw (wide c.args.u c.requires, to_z-of_z (entry_wide c.args.u c.requires)) (entry_fits c.args.u c.requires)

pub returns : goal.returns
returns c = rw (wide c.args.u c.requires, to_z-of_z (entry_wide c.args.u c.requires), to_z-of_z (entry_fits c.args.u c.requires)) refl
