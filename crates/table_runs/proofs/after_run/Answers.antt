-- `table_runs::after_run` meets its contract: the state after a run.
use mathlib.Core.Path.{refl}
use borrow.Author.Tests.{eq-eqb, ne_eqb, lt-ltb, le-ltb}
use Rattle.table_runs.proofs.after_run.Goals as goal

pub returns-then-k-c : goal.returns-then-k-c
returns-then-k-c c = rw (eq-eqb _ _ c.if-k-c.true) refl

pub returns-then-before-eq0 : goal.returns-then-before-eq0
returns-then-before-eq0 c = rw (ne_eqb _ _ c.if-k-c.false, eq-eqb _ _ c.if-before-eq0.true) refl

pub returns-then-q-before : goal.returns-then-q-before
returns-then-q-before c = rw (ne_eqb _ _ c.if-k-c.false, ne_eqb _ _ c.if-before-eq0.false, c.apart-step.ensures, lt-ltb _ _ c.if-q-before.true) refl

pub returns-else-q-before : goal.returns-else-q-before
returns-else-q-before c = rw (ne_eqb _ _ c.if-k-c.false, ne_eqb _ _ c.if-before-eq0.false, c.apart-step.ensures, le-ltb _ _ c.if-q-before.false) refl
