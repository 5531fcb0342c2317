-- `compound_blocks::store_blocks` meets its contract: what is left to be stored makes the slice what it is to be.
use mathlib.Core.Path.{refl}
use Prim.Native.Nat.{◌-◌}
use native.Mathlib.Omega.{arith}
use Rattle.compound_blocks.proofs.PassTurns.{pass_begin, pass_done, pass_over, pass_other, pass_link, pass_title, pass_shut, pass_block, put_length}
use Rattle.compound_blocks.proofs.store_blocks.Goals as goal

pub loop-left-init : goal.loop-left-init
loop-left-init c = (refl, pass_begin _ _ _ _ _ c.requires.0 c.requires.1)

pub next_seen-requires : goal.next_seen-requires
next_seen-requires c = c.loop-left.invariant.1.high

pub returns-in-Over : goal.returns-in-Over
returns-in-Over c =
    pass_over _ _ _ _ _ _ _ _ _ c.loop-left.invariant.1 (c.loop-left.left - 1) (omega (arith, c.loop-left-test.true)) (rw c.in-Over.is at
    c.next_seen.ensures)

pub after_line-to-requires : goal.after_line-to-requires
after_line-to-requires c = let x = rw c.in-End.is at c.next_seen.ensures in omega (arith, x.says.2)

pub put_block-requires : goal.put_block-requires
put_block-requires c =
    omega (arith, c.loop-left.invariant.1.room, c.loop-left-test.true)

pub overflow_add-i : goal.overflow_add-i
overflow_add-i c =
    omega (arith, c.loop-left.invariant.1.room, c.loop-left-test.true)

pub overflow_add-at-then-unlinked : goal.overflow_add-at-then-unlinked
overflow_add-at-then-unlinked c =
    let x = rw c.in-End.is at c.next_seen.ensures in
    omega (arith, x.says.2)

pub loop-left-smaller-then-unlinked : goal.loop-left-smaller-then-unlinked
loop-left-smaller-then-unlinked c =
    let x = rw c.in-End.is at c.next_seen.ensures in
    omega (arith, x.says.0, x.says.1, x.says.2)

pub loop-left-preserved-then-unlinked : goal.loop-left-preserved-then-unlinked
loop-left-preserved-then-unlinked c =
    let l = c.loop-left in
    let put = c.put_block in
    let x = rw c.in-End.is at c.next_seen.ensures in (
      put_length _ _ _ _ _ _ _ put.ensures _ l.invariant.0,
      pass_block _ _ _ _ _ _ _ _ _ l.invariant.1 (l.left - 1) (omega (arith, c.loop-left-test.true)) _ _ x
          c.if-unlinked.true _ c.after_line-to.ensures _ put.ensures,
    )

pub overflow_add-at-else-unlinked : goal.overflow_add-at-else-unlinked
overflow_add-at-else-unlinked c = let x = rw c.in-End.is at c.next_seen.ensures in omega (arith, x.says.2)

pub loop-left-smaller-else-unlinked : goal.loop-left-smaller-else-unlinked
loop-left-smaller-else-unlinked c = let x = rw c.in-End.is at c.next_seen.ensures in omega (arith, x.says.0, x.says.1, x.says.2)

pub loop-left-preserved-else-unlinked : goal.loop-left-preserved-else-unlinked
loop-left-preserved-else-unlinked c =
    let x = rw c.in-End.is at c.next_seen.ensures in (
      c.loop-left.invariant.0,
      pass_shut _ _ _ _ _ _ _ _ _ c.loop-left.invariant.1 (c.loop-left.left - 1) (omega (arith, c.loop-left-test.true)) _ _ x c.if-unlinked.false,
    )

pub overflow_add-at-in-Title : goal.overflow_add-at-in-Title
overflow_add-at-in-Title c = let x = rw c.in-Title.is at c.next_seen.ensures in omega (arith, x.says.2)

pub loop-left-smaller-in-Title : goal.loop-left-smaller-in-Title
loop-left-smaller-in-Title c = let x = rw c.in-Title.is at c.next_seen.ensures in omega (arith, x.says.0, x.says.1, x.says.2)

pub loop-left-preserved-in-Title : goal.loop-left-preserved-in-Title
loop-left-preserved-in-Title c =
    let x = rw c.in-Title.is at c.next_seen.ensures in
    (c.loop-left.invariant.0, pass_title _ _ _ _ _ _ _ _ _ c.loop-left.invariant.1 (c.loop-left.left - 1) (omega (arith, c.loop-left-test.true)) _ _ x)

pub overflow_add-at-in-Link : goal.overflow_add-at-in-Link
overflow_add-at-in-Link c = let x = rw c.in-Link.is at c.next_seen.ensures in omega (arith, x.says.1)

pub loop-left-smaller-in-Link : goal.loop-left-smaller-in-Link
loop-left-smaller-in-Link c = let x = rw c.in-Link.is at c.next_seen.ensures in omega (arith, x.says.0, x.says.1)

pub loop-left-preserved-in-Link : goal.loop-left-preserved-in-Link
loop-left-preserved-in-Link c =
    let x = rw c.in-Link.is at c.next_seen.ensures in
    (c.loop-left.invariant.0, pass_link _ _ _ _ _ _ _ _ _ c.loop-left.invariant.1 (c.loop-left.left - 1) (omega (arith, c.loop-left-test.true)) _ x)

pub overflow_add-at-in-Other : goal.overflow_add-at-in-Other
overflow_add-at-in-Other c = let x = rw c.in-Other.is at c.next_seen.ensures in omega (arith, x.says.1)

pub loop-left-smaller : goal.loop-left-smaller
loop-left-smaller c = let x = rw c.in-Other.is at c.next_seen.ensures in omega (arith, x.says.0, x.says.1)

pub loop-left-preserved : goal.loop-left-preserved
loop-left-preserved c =
    let x = rw c.in-Other.is at c.next_seen.ensures in
    (c.loop-left.invariant.0, pass_other _ _ _ _ _ _ _ _ _ c.loop-left.invariant.1 (c.loop-left.left - 1) (omega (arith, c.loop-left-test.true)) _ x)

pub returns : goal.returns
returns c = pass_done _ _ _ _ _ _ _ _ _ c.loop-left.invariant.1 (omega (arith, c.loop-left-test.false))
