-- `table_pass::pass` meets its contract: line after line, what is left of the body gives the answer.
use Rattle.std.proofs.lemmas.Result.{err_from_is_err_and}
use Prim.Native.Nat.{◌-◌}
use native.Mathlib.Omega.{arith}
use Rattle.table_pass.proofs.PassLaws.{reached_start, reached_next, reached_fault, reached_refused, reached_end}
use Rattle.table_pass.proofs.pass.Goals as goal

pub loop-j-init : goal.loop-j-init
loop-j-init c = reached_start _ _ _ _

pub row_start-requires : goal.row_start-requires
row_start-requires c = c.loop-j.invariant.rests.high

pub returns-in-End : goal.returns-in-End
returns-in-End c =
    reached_end c.loop-j.invariant (rw c.in-End.is at c.row_start.ensures) c.finish.ensures

pub returns-in-Bad : goal.returns-in-Bad
returns-in-Bad c =
    rw c.of.ensures (reached_fault c.loop-j.invariant (rw c.in-Bad.is at c.row_start.ensures))

pub read_line-requires : goal.read_line-requires
read_line-requires c =
    let p = c.requires in
    let x = rw c.in-Head.is at c.row_start.ensures in
    (p, c.loop-j.invariant.rests, x.1)

pub returns-in_err-r-in-Head : goal.returns-in_err-r-in-Head
returns-in_err-r-in-Head c =
    let x = rw c.in-Head.is at c.row_start.ensures in
    let p = err_from_is_err_and c.from_residual.result c.from_residual.ensures.1 in rw (p.1, p.2)
    (reached_refused c.loop-j.invariant _ _ x.2 c.in_err-r-in-Head.ensures)

pub loop-j-smaller : goal.loop-j-smaller
loop-j-smaller c =
    let x = rw c.in-Head.is at c.row_start.ensures in
    let y = c.in_ok-r-in-Head.ensures in
    let h = y.1.high in omega (arith, x.0, y.0)

pub loop-j-preserved : goal.loop-j-preserved
loop-j-preserved c =
    let x = rw c.in-Head.is at c.row_start.ensures in
    reached_next c.loop-j.invariant _ x.2 (c.in_ok-r-in-Head.ensures)
