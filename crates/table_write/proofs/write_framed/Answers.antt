-- `table_write::write_framed` meets its contract: 15, or the text.
use Rattle.std.specs.Prelude.{Err}
use mathlib.Core.Path.{◌≡◌, refl, sym, ◌∙◌, ap}
use lib.ListN.{length, take}
use lib.Seq.{length-take-le}
use borrow.Author.Tests.{leb-true, leb-false}
use Rattle.table_text.proofs.AnswerSteps.{too_long, in_room}
use Rattle.table_write.proofs.write_framed.Goals as goal

pub slice_bounds-ys-end : goal.slice_bounds-ys-end
slice_bounds-ys-end c =
    let few : let a = c.args in length (take a.fr.points a.ordinates.now) ≡ a.fr.points = let a = c.args in length-take-le a.fr.points a.ordinates.now c.requires.1 in
    sym few

pub fits-requires : goal.fits-requires
fits-requires c =
    let few : let a = c.args in length (take a.fr.points a.ordinates.now) ≡ a.fr.points = let a = c.args in length-take-le a.fr.points a.ordinates.now c.requires.1 in
    (c.requires.0, few)

pub lay-length-requires : goal.lay-length-requires
lay-length-requires c =
    let few : let a = c.args in length (take a.fr.points a.ordinates.now) ≡ a.fr.points = let a = c.args in length-take-le a.fr.points a.ordinates.now c.requires.1 in
    (c.requires.0, few, leb-true _ _ (sym c.fits.ensures ∙ c.if-fits.true))

pub returns-then-fits : goal.returns-then-fits
returns-then-fits c =
    let a = c.args in
    in_room a.style a.fr a.ordinates.now a.text.now c.requires.1 (leb-true _ _ (sym c.fits.ensures ∙ c.if-fits.true)) c.lay-length.ensures refl

pub returns : goal.returns
returns c =
    let a = c.args in
    too_long a.style a.fr a.ordinates.now a.text.now c.requires.1 (leb-false _ _ (sym c.fits.ensures ∙ c.if-fits.false)) (ap Err c.of.ensures) refl
