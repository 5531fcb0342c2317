-- `file_texts::decimal_alone` meets its contract: the number, if nothing but blanks, line ends and comments stands around it.
use Rattle.file_texts.proofs.NumberLaws.{decimal_no, decimal_late, decimal_is}
use Rattle.file_texts.proofs.decimal_alone.Goals as goal

pub past_space-requires : goal.past_space-requires
past_space-requires c = let x = c.in_ok-number.ensures.good in x.2

pub returns-then-past_space-part : goal.returns-then-past_space-part
returns-then-past_space-part c =
    let said = c.in_ok-number.ensures.says in
    (decimal_late _ _ c.past_space-at.ensures.is _ _ _ _ said _ c.past_space.ensures.is c.if-past_space-part.true, tt)

pub returns-in_err-number : goal.returns-in_err-number
returns-in_err-number c = rw c.from_residual.ensures (decimal_no _ _ c.past_space-at.ensures.is c.in_err-number.ensures.says, tt)

pub returns : goal.returns
returns c =
    let said = c.in_ok-number.ensures.says in
    let good = c.in_ok-number.ensures.good in
    (decimal_is _ _ c.past_space-at.ensures.is _ _ _ _ said _ c.past_space.ensures.is c.if-past_space-part.false, record { mantissa = good.0; power = good.1 })
