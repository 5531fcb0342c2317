-- `file_marks::first_mark` meets its contract: what is passed is blanks and line ends.
use mathlib.Core.Path.{◌≡◌, sym, ◌∙◌}
use lib.ListN.{length}
use native.Mathlib.Omega.{arith}
use Rattle.file_marks.proofs.TextLaws.{mark_end, mark_here, mark_on}
use Rattle.file_marks.proofs.first_mark.Goals as goal

pub returns-then-not-spacing : goal.returns-then-not-spacing
returns-then-not-spacing c =
    let l = c.loop-i in let s = c.args.s.now in
    let e = rw c.byte_at.ensures at c.spacing.ensures in
    (sym (l.invariant.1 ∙ mark_here s l.i c.loop-i-test.true (sym e ∙ c.if-not-spacing.true)), l.invariant.0)

pub loop-i-preserved : goal.loop-i-preserved
loop-i-preserved c =
    let l = c.loop-i in let s = c.args.s.now in
    let e = rw c.byte_at.ensures at c.spacing.ensures in
    (omega arith, l.invariant.1 ∙ mark_on s l.i c.loop-i-test.true (sym e ∙ c.if-not-spacing.false))

pub returns : goal.returns
returns c =
    let l = c.loop-i in
    let e : l.i ≡ length c.args.s.now = omega arith in
    (sym (l.invariant.1 ∙ mark_end c.args.s.now l.i c.loop-i-test.false ∙ e), omega arith)
