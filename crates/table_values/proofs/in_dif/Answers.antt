-- `table_values::in_dif` meets its contract: is a form DIF?
use mathlib.Core.Path.{refl}
use borrow.Author.Tests.{ne_eqb}
use Rattle.table_values.proofs.in_dif.Goals as goal

pub returns-then-form-eq1 : goal.returns-then-form-eq1
returns-then-form-eq1 c = rw c.if-form-eq1.true refl

pub returns : goal.returns
returns c = rw (ne_eqb _ _ c.if-form-eq1.false) refl
