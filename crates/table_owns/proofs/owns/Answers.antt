-- `table_owns::owns` meets its contract: the ordinates of their own that stand one after the other.
use mathlib.Core.Path.{refl}
use mathlib.Core.Logic.{inl}
use Prim.Native.Nat.{◌-◌, ◌≤◌}
use native.Mathlib.Omega.{arith}
use lib.ListN.{length}
use borrow.Author.Rules.{rules}
use Rattle.table_value.proofs.Walks.{went_none}
use Rattle.table_ordinates.proofs.Moves.{own_small}
use Rattle.table_owns.proofs.Walks.{been_went, been_end, been_own}
use Rattle.table_owns.proofs.owns.Goals as goal

pub returns-then-c-ne0 : goal.returns-then-c-ne0
returns-then-c-ne0 c = went_none _ _ c.requires

pub returns-then-s-lt-ROOM : goal.returns-then-s-lt-ROOM
returns-then-s-lt-ROOM c = went_none _ _ c.requires

pub loop-k-init : goal.loop-k-init
loop-k-init c = (inl (refl, refl, refl), refl)

pub blanks-j-requires : goal.blanks-j-requires
blanks-j-requires c = (been_went _ c.requires c.loop-k.invariant.0).3.sits.high

pub returns-then-k-points : goal.returns-then-k-points
returns-then-k-points c = rw c.after_owns.ensures (been_end _ c.requires c.loop-k.invariant.0)

pub standing_in-b-requires : goal.standing_in-b-requires
standing_in-b-requires c =
    let within : c.blanks-j.result ≤ length c.args.s.now - 12 = omega (arith, c.if-j-limit.false) in
    let l = within in let h = c.if-s-lt-ROOM.false in omega arith

pub own_number-r-requires : goal.own_number-r-requires
own_number-r-requires c =
    let within : c.blanks-j.result ≤ length c.args.s.now - 12 = omega (arith, c.if-j-limit.false) in
    let l = within in let h = c.if-s-lt-ROOM.false in
    let o = (been_went _ c.requires c.loop-k.invariant.0).3.sits.some in let b = c.blanks-j.ensures.low in
    (omega arith, omega arith, c.standing_in-b.ensures)

pub returns-then-r-gt-LARGEST : goal.returns-then-r-gt-LARGEST
returns-then-r-gt-LARGEST c = rw c.after_owns-then-r-gt-LARGEST.ensures (been_end _ c.requires c.loop-k.invariant.0)

pub turned-q-requires : goal.turned-q-requires
turned-q-requires c = let l = c.if-r-gt-LARGEST.false in (omega arith, omega arith)

pub put-requires : goal.put-requires
put-requires c = rw c.turned-q.ensures (own_small c.falls.result _ c.if-r-gt-LARGEST.false)

pub loop-k-smaller : goal.loop-k-smaller
loop-k-smaller c = let k = c.if-k-points.false in omega arith

pub loop-k-preserved : goal.loop-k-preserved
loop-k-preserved c =
    let h = c.if-r-gt-LARGEST.false in (
      been_own _ _ _ c.requires c.if-c-ne0.false c.loop-k.invariant.0 c.blanks-j.ensures h (c.own_number-r.ensures h)
          c.if-k-points.false c.falls.ensures c.turned-q.ensures c.put.ensures,
      search rules,
    )
