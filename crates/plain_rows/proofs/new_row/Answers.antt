-- `plain_rows::new_row` meets its contract: 11, or the first ordinate and the rest of the row are laid after the points before.
use native.Mathlib.Omega.{arith}
use Rattle.plain_rows.proofs.RowLaws.{full_line, more_line}
use Rattle.plain_rows.proofs.new_row.Goals as goal

pub returns-then-k-fr : goal.returns-then-k-fr
returns-then-k-fr c =
    let a = c.args in let p = c.requires in let front = p.2 in
    rw (c.refused.ensures, c.of.ensures) (full_line a.fr _ a.r _ front.head p.1.few front.first p.3 c.if-k-fr.true _ front.passing _ _)

pub expand-rest-requires : goal.expand-rest-requires
expand-rest-requires c =
    let p = c.requires in let g = p.2.first in let l = g.0 in let k = c.if-k-fr.false in
    rw c.row_from-start.ensures (p.0.few, record { some = omega arith; high = g.1; small = g.2.end; right = g.2.right; few = omega arith })

pub returns : goal.returns
returns c =
    let a = c.args in let p = c.requires in let front = p.2 in
    rw c.checked.ensures
    (more_line a.fr _ a.r _ front.head p.1.few front.first p.3 c.if-k-fr.false _ a.out.now _ _ c.put.ensures
    (rw c.row_from-start.ensures at c.expand-rest.ensures) _ front.passing)
