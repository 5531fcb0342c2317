-- `text_marks::width_of` meets its contract: the marks and the digits of a value that is not negative, a missing one, one that is negative.
use Rattle.text_marks.proofs.ShowSteps.{width_missing, width_up, width_down}
use Rattle.text_marks.proofs.width_of.Goals as goal

pub returns-then-u-ge-ZERO_ORDINATE : goal.returns-then-u-ge-ZERO_ORDINATE
returns-then-u-ge-ZERO_ORDINATE c =
    let a = c.args in
    width_up a.m a.u c.if-u-ge-ZERO_ORDINATE.true c.mark_width.ensures.0 c.digits_in.ensures.0

pub returns-then-u-eq0 : goal.returns-then-u-eq0
returns-then-u-eq0 c =
    let a = c.args in
    width_missing a.m a.u c.if-u-eq0.true c.mark_width-then-u-eq0.ensures.0

pub returns : goal.returns
returns c =
    let a = c.args in
    width_down a.m a.u c.if-u-eq0.false c.if-u-ge-ZERO_ORDINATE.false c.mark_width-2.ensures.0 c.mark_width-3.ensures.0 c.digits_in-2.ensures.0
