-- `text_groups::dup_byte` meets its contract: the byte of a DUP's first digit.
use mathlib.Core.Path.{refl}
use borrow.Author.Tests.{eq-eqb, ne_eqb}
use Rattle.text_groups.proofs.dup_byte.Goals as goal

pub returns-then-d-eq9 : goal.returns-then-d-eq9
returns-then-d-eq9 c = rw (eq-eqb _ _ c.if-d-eq9.true) refl

pub returns : goal.returns
returns c = rw (ne_eqb _ _ c.if-d-eq9.false) refl
