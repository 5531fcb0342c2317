-- `plain_rows::check_row` meets its contract: 10, or the rest of the row is laid after the points before.
use native.Mathlib.Omega.{arith}
use Rattle.plain_rows.proofs.RowLaws.{unequal_line, equal_line}
use Rattle.plain_rows.proofs.check_row.Goals as goal

pub expand-rest-requires : goal.expand-rest-requires
expand-rest-requires c =
    let p = c.requires in let g = p.2.first in let l = g.0 in
    rw c.row_from-start.ensures (p.0.few, record { some = omega arith; high = g.1; small = g.2.end; right = g.2.right; few = p.1.few })

pub returns-then-f-r : goal.returns-then-f-r
returns-then-f-r c =
    let a = c.args in let p = c.requires in let front = p.2 in
    rw (c.refused.ensures, c.of.ensures) (unequal_line a.fr _ a.r _ front.head p.1.few front.first p.3 c.if-f-r.true _ front.passing _ _)

pub returns : goal.returns
returns c =
    let a = c.args in let p = c.requires in let front = p.2 in
    rw c.checked.ensures
    (equal_line a.fr _ a.r _ front.head p.1.few front.first p.3 c.if-f-r.false _ _ _ (rw c.row_from-start.ensures at c.expand-rest.ensures) _ front.passing)
