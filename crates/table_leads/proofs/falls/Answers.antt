-- `table_owns::falls` meets its contract: is an ordinate minus that begins with the byte b?
use mathlib.Core.Path.{refl}
use borrow.Author.Tests.{eq-eqb, ne_eqb}
use Rattle.table_leads.proofs.falls.Goals as goal

pub returns-then-b-eq-MINUS : goal.returns-then-b-eq-MINUS
returns-then-b-eq-MINUS c = rw (eq-eqb _ _ c.if-b-eq-MINUS.true) refl

pub returns : goal.returns
returns c = rw (ne_eqb _ _ c.if-b-eq-MINUS.false) refl
