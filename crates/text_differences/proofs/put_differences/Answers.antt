-- `text_differences::put_differences` meets its contract: the same from any state, or nothing is done.
use native.Mathlib.Omega.{arith}
use lib.ListN.{length-map}
use Rattle.table_spec.specs.Frame.{ordinate_of}
use Rattle.text_differences.proofs.LoneSteps.{stored_none}
use borrow.Author.Tests.{not-false}
use Rattle.text_differences.proofs.put_differences.Goals as goal

pub returns-then-s-eq0 : goal.returns-then-s-eq0
returns-then-s-eq0 c =
    let a = c.args in
    let p = c.requires in
    (stored_none _ a.s _ p.1.started (omega (arith, p.2, length-map a.ys.now ordinate_of)) p.1.column_most, p.2)

pub put_lone-requires : goal.put_lone-requires
put_lone-requires c =
    let p = c.requires in
    (p.0, p.1, p.2, not-false _ c.if-not-s.false, omega (arith, c.if-s-eq0.false), omega (arith, c.if-out-line.false))
