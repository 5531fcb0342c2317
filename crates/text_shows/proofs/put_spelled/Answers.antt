-- `text_shows::put_spelled` meets its contract: the marks, and the number over those that are not to be.
use native.Mathlib.Omega.{arith}
use lib.ListN.{length-set}
use Rattle.text_marks.proofs.ShowSteps.{parts_length, number_over}
use Rattle.text_shows.proofs.put_spelled.Goals as goal

pub bounds-out-at : goal.bounds-out-at
bounds-out-at c =
    let p = c.requires.1 in
    let a = c.args in
    let ends = p.ends in let lent = p.lent in
    omega (arith, parts_length a.space a.signed a.base a.size c.mark_width-first.ensures.0 c.mark_width-second.ensures.0)

pub bounds-out-minus : goal.bounds-out-minus
bounds-out-minus c =
    let p = c.requires.1 in
    let a = c.args in
    let ends = p.ends in let lent = p.lent in
    simp length-set (omega (arith, parts_length a.space a.signed a.base a.size c.mark_width-first.ensures.0 c.mark_width-second.ensures.0))

pub overflow_sub-further : goal.overflow_sub-further
overflow_sub-further c =
    let p = c.requires.1 in
    let a = c.args in
    let ends = p.ends in
    omega (arith, parts_length a.space a.signed a.base a.size c.mark_width-first.ensures.0 c.mark_width-second.ensures.0)

pub overflow_sub-further-2 : goal.overflow_sub-further-2
overflow_sub-further-2 c =
    let p = c.requires.1 in
    let a = c.args in
    let ends = p.ends in
    omega (arith, parts_length a.space a.signed a.base a.size c.mark_width-first.ensures.0 c.mark_width-second.ensures.0)

pub store_number-requires : goal.store_number-requires
store_number-requires c =
    let p = c.requires.1 in
    let a = c.args in
    let ends = p.ends in let lent = p.lent in
    let e = parts_length a.space a.signed a.base a.size c.mark_width-first.ensures.0 c.mark_width-second.ensures.0 in
    (c.requires.0, record { least = p.least; most = p.most; digits = omega (arith, e); small = p.small; lent = simp length-set (omega (arith, e)) })

pub returns : goal.returns
returns c =
    let a = c.args in
    number_over _ a.at a.space a.signed a.base a.size c.mark_width-first.ensures.0 c.mark_width-second.ensures.0 c.store_number.ensures.stored
