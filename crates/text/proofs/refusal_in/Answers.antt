-- `text::refusal_in` meets its contract: the line and the column that were counted are those of the place.
use Prim.Native.Nat.{◌<◌}
use native.Mathlib.Omega.{arith}
use Rattle.std.proofs.Common.{get_or-take, length-take}
use Rattle.text.proofs.Counting.{counted_start, counted_line, counted_column, counted_on, counted_done}
use Rattle.text.proofs.refusal_in.Goals as goal

pub loop-b-init : goal.loop-b-init
loop-b-init c = counted_start _ _ _ c.min-end.ensures

pub next_line-line-requires : goal.next_line-line-requires
next_line-line-requires c = let z = c.loop-b.invariant.within in omega (arith, z, counted_line c.loop-b.invariant)

pub next_column-column-requires : goal.next_column-column-requires
next_column-column-requires c = let z = c.loop-b.invariant.within in omega (arith, z, counted_column c.loop-b.invariant)

pub loop-b-preserved : goal.loop-b-preserved
loop-b-preserved c =
    let h : c.loop-b.b-index < c.min-end.result = omega (arith, simp length-take at c.loop-b-test.true) in
    counted_on c.loop-b.invariant h (rw get_or-take at c.next_line-line.ensures) (rw get_or-take at c.next_column-column.ensures)

pub returns : goal.returns
returns c = counted_done _ _ c.loop-b.invariant c.min-end.ensures (let z = c.loop-b.invariant.within in omega (arith, z, simp length-take at c.loop-b-test.false))
