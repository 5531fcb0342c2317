-- `night_numbers::level_bits` meets its contract: a number of the report, or the mark for `none`.
use mathlib.Core.Path.{refl}
use mir.Syntax.{w64}
use mir.Facts.{to_z-of_z}
use borrow.Author.Rules.{sfits_of}
use Rattle.night_numbers.proofs.level_bits.Goals as goal

pub returns-in-Some : goal.returns-in-Some
returns-in-Some c = rw (c.bits_of.ensures, to_z-of_z (sfits_of {w = w64} {z = c.in-Some.x} c.in-Some.known_told-1-own.given.0.1), c.in-Some.is) refl
