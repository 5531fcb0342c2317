-- `compound_walk::walk_block` meets its contract: label by label; an inner block by its own contract, with one depth less left.
use Rattle.std.proofs.lemmas.Result.{err_from_is_err_and}
use mathlib.Core.Path.{sym, ◌∙◌}
use Prim.Native.Nat.{◌-◌}
use native.Mathlib.Omega.{arith}
use borrow.Author.Tests.{not-true, not-false}
use borrow.Fn.PlainCycle.{is}
use Rattle.compound_walk.specs.Turns.{gone_begin}
use Rattle.compound_walk.proofs.BlockTurns.{block_none, block_bad, block_end, block_closed, block_deep, block_fault, block_inner, block_twice, block_table, block_own}
use Rattle.compound_walk.proofs.+walk_block.Goals as goal

pub loop-mark-init : goal.loop-mark-init
loop-mark-init t c = gone_begin _ _ _ _ c.requires.0

pub next_label-requires : goal.next_label-requires
next_label-requires t c = c.loop-mark.invariant.high

pub returns-in-None : goal.returns-in-None
returns-in-None t c =
    rw c.of.ensures (block_none _ _ _ _ _ _ _ c.loop-mark.invariant (rw c.in-None.is at c.next_label.ensures))

pub returns-in-Bad : goal.returns-in-Bad
returns-in-Bad t c =
    rw c.of-in-Bad.ensures (block_bad _ _ _ _ _ _ _ c.loop-mark.invariant _ (rw c.in-Bad.is at c.next_label.ensures))

pub overflow_add-next : goal.overflow_add-next
overflow_add-next t c = let x = rw c.in-At.is at c.next_label.ensures in omega (arith, x.good)

pub is_end-requires : goal.is_end-requires
is_end-requires t c = let x = rw c.in-At.is at c.next_label.ensures in (omega (arith, x.good), omega (arith, x.good))

pub returns-then-is_end : goal.returns-then-is_end
returns-then-is_end t c =
    block_end _ _ _ _ _ _ _ c.loop-mark.invariant _ _ _ (rw c.in-At.is at c.next_label.ensures) (sym c.is_end.ensures ∙ c.if-is_end.true)

pub is_title-requires : goal.is_title-requires
is_title-requires t c =
    let x = rw c.in-At.is at c.next_label.ensures in
    (omega (arith, x.good), omega (arith, x.good))

pub returns-then-not-own : goal.returns-then-not-own
returns-then-not-own t c =
    rw c.of-then-not-own.ensures (block_closed _ _ _ _ _ _ _ c.loop-mark.invariant _ _ _ (rw c.in-At.is at c.next_label.ensures) (sym
    c.is_end.ensures ∙ c.if-is_end.false) (sym c.is_title.ensures ∙ c.if-is_title.true) (not-true _ c.if-not-own.true))

pub returns-then-left-eq0 : goal.returns-then-left-eq0
returns-then-left-eq0 t c =
    rw c.of-then-left-eq0.ensures (block_deep _ _ _ _ _ _ _ c.loop-mark.invariant _ _ _ (rw c.in-At.is at c.next_label.ensures) (sym c.is_end.ensures ∙ c.if-is_end.false) (sym c.is_title.ensures ∙ c.if-is_title.true) c.if-left-eq0.true)

pub walk_block-requires : goal.walk_block-requires
walk_block-requires t c =
    let x = rw c.in-At.is at c.next_label.ensures in
    (omega (arith, c.requires, c.decreases, c.if-left-eq0.false), (omega (arith, x.good), omega (arith, c.requires.1)))

pub returns-in_err-inner-in-At : goal.returns-in_err-inner-in-At
returns-in_err-inner-in-At t c =
    let p = err_from_is_err_and c.from_residual.result c.from_residual.ensures.1 in rw (p.1, p.2)
    (block_fault _ _ _ _ _ _ _ c.loop-mark.invariant _ _ _ (rw c.in-At.is at c.next_label.ensures) (sym c.is_end.ensures ∙
    c.if-is_end.false) (sym c.is_title.ensures ∙ c.if-is_title.true) (not-false _ c.if-not-own.false) _ (omega (arith, c.if-left-eq0.false)) _ c.in_err-inner-in-At.ensures)

pub count_more-count-requires : goal.count_more-count-requires
count_more-count-requires t c =
    let w = c.in_ok-inner-in-At.ensures in
    let x = rw c.in-At.is at c.next_label.ensures in
    let k = c.well_formed in
    omega (arith, k, w.few, w.mid, w.high, x.good, c.loop-mark.invariant.few)

pub overflow_add-at : goal.overflow_add-at
overflow_add-at t c =
    let w = c.in_ok-inner-in-At.ensures in
    let k = c.well_formed in
    omega (arith, k, w.high)

pub loop-mark-smaller-then-is_title : goal.loop-mark-smaller-then-is_title
loop-mark-smaller-then-is_title t c =
    let w = c.in_ok-inner-in-At.ensures in
    let x = rw c.in-At.is at c.next_label.ensures in
    omega (arith, w.low, w.mid, w.high, x.good)

pub loop-mark-preserved-then-is_title : goal.loop-mark-preserved-then-is_title
loop-mark-preserved-then-is_title t c =
    block_inner _ _ _ _ _ _ _ c.loop-mark.invariant _ _ _ (rw c.in-At.is at c.next_label.ensures) (sym c.is_end.ensures ∙
    c.if-is_end.false) (sym c.is_title.ensures ∙ c.if-is_title.true) (not-false _ c.if-not-own.false) _ (omega (arith, c.if-left-eq0.false)) _ _ _ _ _ c.count_more-count.ensures (c.in_ok-inner-in-At.ensures)

pub own_clash-requires : goal.own_clash-requires
own_clash-requires t c =
    let x = rw c.in-At.is at c.next_label.ensures in
    (omega (arith, c.requires), omega (arith, x.good), omega (arith, x.good))

pub returns-then-own_clash : goal.returns-then-own_clash
returns-then-own_clash t c =
    rw c.of-then-own_clash.ensures (block_twice _ _ _ _ _ _ _ c.loop-mark.invariant _ _ _ (rw c.in-At.is at c.next_label.ensures) (sym c.is_end.ensures ∙ c.if-is_end.false) (sym c.is_title.ensures ∙ c.if-is_title.false) (sym c.own_clash.ensures ∙ c.if-own_clash.true))

pub next_mark-to-requires : goal.next_mark-to-requires
next_mark-to-requires t c =
    let x = rw c.in-At.is at c.next_label.ensures in
    omega (arith, x.good)

pub note-own-requires : goal.note-own-requires
note-own-requires t c =
    let x = rw c.in-At.is at c.next_label.ensures in
    (omega (arith, x.good), omega (arith, x.good), c.next_mark-to.ensures.low, c.next_mark-to.ensures.high)

pub returns-then-is_both : goal.returns-then-is_both
returns-then-is_both t c =
    rw c.of-then-is_both.ensures (block_table _ _ _ _ _ _ _ c.loop-mark.invariant _ _ _ (rw c.in-At.is at c.next_label.ensures) (sym c.is_end.ensures ∙ c.if-is_end.false) (sym c.is_title.ensures ∙ c.if-is_title.false) (sym c.own_clash.ensures ∙ c.if-own_clash.false) _
    c.next_mark-to.ensures _ c.note-own.ensures (sym c.is_both.ensures ∙ c.if-is_both.true))

pub loop-mark-smaller : goal.loop-mark-smaller
loop-mark-smaller t c =
    let x = rw c.in-At.is at c.next_label.ensures in
    omega (arith, x.good)

pub loop-mark-preserved : goal.loop-mark-preserved
loop-mark-preserved t c =
    block_own _ _ _ _ _ _ _ c.loop-mark.invariant _ _ _ (rw c.in-At.is at c.next_label.ensures) (sym c.is_end.ensures ∙ c.if-is_end.false) (sym c.is_title.ensures ∙ c.if-is_title.false) (sym c.own_clash.ensures ∙ c.if-own_clash.false) _ c.next_mark-to.ensures _ c.note-own.ensures (sym c.is_both.ensures ∙ c.if-is_both.false)
