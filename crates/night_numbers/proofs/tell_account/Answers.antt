-- `night_numbers::tell_account` meets its contract: the numbers of a file that was read, in the order of the header.
use mathlib.Core.Path.{refl}
use mir.Syntax.{w64}
use mir.Facts.{to_z-of_z}
use borrow.Author.Rules.{sfits_of}
use Rattle.night_numbers.proofs.tell_account.Goals as goal

pub returns : goal.returns
returns c = let a = c.args.a in
    let e = to_z-of_z (sfits_of {w = w64} {z = a.sum} c.struct_told-1.given.1.1.1.1.0.1) in
    rw (c.level_bits-lowest.ensures, c.level_bits-highest.ensures, c.bits_of-sum.ensures, e, c.level_bits-faintest.ensures) (refl, refl)
