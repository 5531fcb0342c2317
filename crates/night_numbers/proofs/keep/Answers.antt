-- `night_numbers::keep` meets its contract: the six numbers of a walk, the sum in 64 bits.
use mathlib.Core.Path.{refl}
use mir.Syntax.{w64}
use mir.Facts.{to_z-of_z}
use borrow.Author.Rules.{sfits_of}
use Rattle.night_numbers.proofs.keep.Goals as goal

pub returns : goal.returns
returns c = let p = c.args.p in
    rw (c.bits_of.ensures, to_z-of_z (sfits_of {w = w64} {z = p.totals.sum} c.struct_told-1.given.1.1.1.0.1)) refl
