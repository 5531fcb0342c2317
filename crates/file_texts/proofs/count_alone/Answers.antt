-- `file_texts::count_alone` meets its contract: the number, if nothing but blanks, line ends and comments stands around it.
use Rattle.file_texts.proofs.NumberLaws.{count_no, count_late, count_is}
use Rattle.file_texts.proofs.count_alone.Goals as goal

pub past_space-requires : goal.past_space-requires
past_space-requires c = let x = c.in_ok-count.ensures.good in x.1

pub returns-then-past_space-part : goal.returns-then-past_space-part
returns-then-past_space-part c =
    let said = c.in_ok-count.ensures.says in
    (count_late _ _ c.past_space-at.ensures.is _ _ said _ c.past_space.ensures.is c.if-past_space-part.true, tt)

pub returns-in_err-count : goal.returns-in_err-count
returns-in_err-count c = rw c.from_residual.ensures (count_no _ _ c.past_space-at.ensures.is c.in_err-count.ensures.says, tt)

pub returns : goal.returns
returns c =
    let said = c.in_ok-count.ensures.says in
    let good = c.in_ok-count.ensures.good in
    (count_is _ _ c.past_space-at.ensures.is _ _ said _ c.past_space.ensures.is c.if-past_space-part.false, good.0)
