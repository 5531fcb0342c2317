-- `signed::ordinate_at` meets its contract: the ordinate at an index of the slice.
use mathlib.Core.Path.{sym, ap, ◌∙◌}
use borrow.Author.Rules.{sfits_of}
use mir.Syntax.{w32}
use mir.Facts.{to_z-of_z}
use lib.IntN.{pos}
use lib.ListN.{get_or}
use Rattle.table_spec.specs.Frame.{ordinate_of}
use Rattle.signed.specs.Scale.{ordinate_at}
use Rattle.signed.proofs.ordinate_at.Goals as goal

pub returns : goal.returns
returns c =
    let a = c.args in
    let z = to_z-of_z (sfits_of {w = w32} {z = get_or a.ys.now a.k (pos 0)} c.ordinate_of-arg-1.given) in
    (c.ordinate_of.ensures.0 ∙ ap ordinate_of z ∙ sym (ordinate_at a.ys.now a.k c.requires), c.ordinate_of.ensures.1)
