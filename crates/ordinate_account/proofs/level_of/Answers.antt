-- `ordinate_account::level_of` meets its contract: 0 is `none`, and every other number is lowered.
use mir.Syntax.{w64}
use mir.Facts.{to_z-of_z}
use borrow.Author.Rules.{sfits_of}
use mathlib.Core.Path.{refl}
use borrow.Author.Tests.{eq-eqb, ne_eqb}
use Rattle.ordinate_account.proofs.level_of.Goals as goal

pub returns-then-raised-eq0 : goal.returns-then-raised-eq0
returns-then-raised-eq0 c = rw (eq-eqb _ _ c.if-raised-eq0.true) refl

pub returns : goal.returns
returns c = rw (ne_eqb _ _ c.if-raised-eq0.false, to_z-of_z (sfits_of {w = w64} c.lowered.type_inv), c.lowered.ensures) refl
