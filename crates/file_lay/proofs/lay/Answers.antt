-- `file_lay::lay` meets its contract: where the body fits behind the heading, the three parts are the file; where it does not, nothing is altered.
-- where the heading is measured, and where the table is written
use Rattle.std.specs.Prelude.{Err}
use mathlib.Core.Path.{ap}
use mathlib.Core.List.{List}
use Prim.Native.Nat.{ℕ}
use native.Mathlib.Omega.{arith}
use mir.Facts.{to_z-of_z}
use Rattle.label_spec.specs.Names.{END}
use Rattle.file_plan.specs.Stages.{body_of}
use Rattle.file_lay.proofs.LaySteps.{body_bound, table_refused, table_wrote, too_short, not_fitting, fitting}
use Rattle.file_lay.proofs.lay.Goals as goal

pub returns-then-len-head : goal.returns-then-len-head
returns-then-len-head c =
    let body : List ℕ = body_of c.args.first c.args.last c.args.n.npoints c.args.ordinates.now in
    let a = c.args in let n = c.heading_length-head.ensures.0 in
    too_short a.title.now a.n body a.text.now _ (omega arith) c.if-len-head.true (ap Err c.of.ensures)

pub overflow_add-at : goal.overflow_add-at
overflow_add-at c =
    let a = c.args in
    let w = table_wrote a.first a.last a.n.npoints a.ordinates.now c.requires.2 _ _ c.in-Ok.is
    (rw (to_z-of_z c.ranges.first, to_z-of_z c.ranges.last) at c.write_table.ensures) in
    let most = body_bound a.first a.last a.n.npoints a.ordinates.now c.requires.2 in
    omega (arith, c.heading_length-head.ensures.1, w.1)

pub put_line-length-requires : goal.put_line-length-requires
put_line-length-requires c =
    let a = c.args in
    let w = table_wrote a.first a.last a.n.npoints a.ordinates.now c.requires.2 _ _ c.in-Ok.is
    (rw (to_z-of_z c.ranges.first, to_z-of_z c.ranges.last) at c.write_table.ensures) in
    let most = body_bound a.first a.last a.n.npoints a.ordinates.now c.requires.2 in
    (omega arith, omega arith, omega (arith, c.heading_length-head.ensures.1, w.1))

pub returns-in-Err : goal.returns-in-Err
returns-in-Err c =
    let body : List ℕ = body_of c.args.first c.args.last c.args.n.npoints c.args.ordinates.now in
    let a = c.args in let n = c.heading_length-head.ensures.0 in
    let w = table_refused a.first a.last a.n.npoints a.ordinates.now c.requires.2 _ _ c.in-Err.is
    (rw (to_z-of_z c.ranges.first, to_z-of_z c.ranges.last) at c.write_table.ensures) in
    not_fitting a.title.now a.n body a.text.now _ (omega arith) c.if-len-head.false w.0 w.1 (ap Err c.of-in-Err.ensures)

pub returns-in-Ok : goal.returns-in-Ok
unfolding END
returns-in-Ok c =
    let body : List ℕ = body_of c.args.first c.args.last c.args.n.npoints c.args.ordinates.now in
    let a = c.args in
    let w = table_wrote a.first a.last a.n.npoints a.ordinates.now c.requires.2 _ _ c.in-Ok.is
    (rw (to_z-of_z c.ranges.first, to_z-of_z c.ranges.last) at c.write_table.ensures) in
    let n = c.heading_length-head.ensures.0 in
    fitting a.title.now a.n body a.text.now _ _ (omega arith) c.if-len-head.false w.0 w.1 w.2
    c.put_heading.ensures.0 c.put_line-length.ensures.0
