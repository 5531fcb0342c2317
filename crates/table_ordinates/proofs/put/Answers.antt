-- `table_ordinates::put` meets its contract: stores an ordinate, if there is room for it.
use mathlib.Core.Path.{refl, sym}
use borrow.Author.Rules.{sfits_of}
use mir.Syntax.{w32}
use mir.Facts.{to_z-of_z}
use lib.Seq.{set_out}
use Rattle.table_ordinates.proofs.put.Goals as goal

pub returns-then-k-out : goal.returns-then-k-out
returns-then-k-out c = rw (to_z-of_z (sfits_of {w = w32} c.entry_for.type_inv), c.entry_for.ensures) refl

pub returns-else-k-out : goal.returns-else-k-out
returns-else-k-out c = sym (set_out _ _ _ c.if-k-out.false)
