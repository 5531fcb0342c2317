-- `night_numbers::progress_of` meets its contract: each number in its place, the sum with its sign.
use mathlib.Core.Path.{refl}
use mir.Syntax.{w64}
use mir.Facts.{to_z-of_z}
use borrow.Author.Rules.{sfits_of}
use Rattle.night_numbers.proofs.progress_of.Goals as goal

pub returns : goal.returns
returns c = rw (to_z-of_z (sfits_of {w = w64} c.number_of.type_inv), c.number_of.ensures) refl
