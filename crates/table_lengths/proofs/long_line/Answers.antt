-- `table_lengths::long_line` meets its contract: no line before `at` is too long.
use mathlib.Core.Path.{refl, sym, ap, ◌∙◌}
use native.Mathlib.Omega.{arith}
use Rattle.table_lengths.specs.Lengths.{shown_long}
use Rattle.table_lengths.proofs.LengthLaws.{text_ends}
use Rattle.table_lengths.proofs.long_line.Goals as goal

pub loop-at-init : goal.loop-at-init
loop-at-init c = (omega arith, refl)

pub overflow_sub-s : goal.overflow_sub-s
overflow_sub-s c = c.loop-at.invariant.0

pub next_line-next-requires : goal.next_line-next-requires
next_line-next-requires c = let z = c.loop-at.invariant.0 in omega (arith, z, c.loop-at-test.true)

pub returns-then-next-at : goal.returns-then-next-at
returns-then-next-at c = sym (ap shown_long (c.loop-at.invariant.1 ∙ c.next_line-next.ensures.long c.if-next-at.true))

pub loop-at-smaller : goal.loop-at-smaller
loop-at-smaller c = let low = c.next_line-next.ensures.low in let high = c.next_line-next.ensures.high in omega (arith, low, high, c.if-next-at.false)

pub loop-at-preserved : goal.loop-at-preserved
loop-at-preserved c =
    let next = c.next_line-next.ensures in
    let low = next.low in
    (next.high, c.loop-at.invariant.1 ∙ next.on (omega (arith, low, c.if-next-at.false)))

pub returns : goal.returns
returns c = sym (ap shown_long (c.loop-at.invariant.1 ∙ text_ends _ _ c.loop-at-test.false))
