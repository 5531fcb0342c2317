-- `compound_walk::count_more` meets its contract: itself among them, or not.
use mathlib.Core.Path.{refl}
use native.Mathlib.Omega.{arith}
use Rattle.compound_walk.proofs.count_more.Goals as goal

pub returns-then-link : goal.returns-then-link
returns-then-link c = rw c.if-link.true (omega arith)

pub returns : goal.returns
returns c = rw c.if-link.false refl
