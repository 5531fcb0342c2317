-- `byte_entry::either` meets its contract: the entry of one of two bytes, or that of a byte outside the alphabet.
use mathlib.Core.Path.{refl}
use borrow.Author.Tests.{eq-eqb, ne_eqb}
use Rattle.byte_entry.proofs.either.Goals as goal

pub returns-then-b-x : goal.returns-then-b-x
returns-then-b-x c = rw (eq-eqb _ _ c.if-b-x.true) refl

pub returns-then-b-y : goal.returns-then-b-y
returns-then-b-y c = rw (ne_eqb _ _ c.if-b-x.false, eq-eqb _ _ c.if-b-y.true) refl

pub returns : goal.returns
returns c = rw (ne_eqb _ _ c.if-b-x.false, ne_eqb _ _ c.if-b-y.false) refl
