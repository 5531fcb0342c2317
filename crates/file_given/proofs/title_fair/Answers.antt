-- `file_given::title_fair` meets its contract: each byte is looked at once, with the one after it.
use mathlib.Core.Path.{sym, ◌∙◌}
use native.Mathlib.Omega.{arith}
use Rattle.file_given.specs.Titles.{too_long, short, clean_end, clean_on, clean_not}
use Rattle.file_given.proofs.title_fair.Goals as goal

pub returns-then-title-gt-LONGEST_TITLE : goal.returns-then-title-gt-LONGEST_TITLE
returns-then-title-gt-LONGEST_TITLE c = too_long c.args.title.now c.if-title-gt-LONGEST_TITLE.true

pub loop-i-init : goal.loop-i-init
loop-i-init c = (omega arith, sym (short c.args.title.now c.if-title-gt-LONGEST_TITLE.false))

pub returns-then-not-fair : goal.returns-then-not-fair
returns-then-not-fair c =
    let l = c.loop-i in let s = c.args.title.now in
    let h = c.loop-i-test.true in let e = rw c.byte_at.ensures at c.fair.ensures in
    sym (l.invariant.1 ∙ clean_not s l.i h (sym e ∙ c.if-not-fair.true))

pub loop-i-preserved : goal.loop-i-preserved
loop-i-preserved c =
    let l = c.loop-i in let s = c.args.title.now in
    let h = c.loop-i-test.true in let e = rw c.byte_at.ensures at c.fair.ensures in
    (omega arith, l.invariant.1 ∙ clean_on s l.i h (sym e ∙ c.if-not-fair.false))

pub returns : goal.returns
returns c = let l = c.loop-i in sym (l.invariant.1 ∙ clean_end c.args.title.now l.i c.loop-i-test.false)
