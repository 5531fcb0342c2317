-- `table_value::own_value` meets its contract: an ordinate of its own; on a check line's start it is compared, and adds no point.
use mathlib.Core.Path.{refl, sym, ◌∙◌}
use mathlib.Core.List.{[]}
use Prim.Native.Nat.{◌-◌}
use native.Mathlib.Omega.{arith}
use Rattle.table_spec.specs.Values.{Own}
use Rattle.table_value.specs.States.{going, own as codes-own}
use Rattle.table_value.proofs.Turns.{value_not, value_full, value_adds, value_stepped}
use Rattle.table_ordinates.proofs.Moves.{own_reach, own_small}
use Rattle.table_value.proofs.Meanings.{own_large, own_free, own_unequal, own_equal}
use Rattle.table_value.proofs.Turns.{sits_next}
use Rattle.table_value.proofs.own_value.Goals as goal

pub returns-then-v-gt2147483647 : goal.returns-then-v-gt2147483647
returns-then-v-gt2147483647 c = let p = c.requires in (refl, λ y w h. value_not _ _ p.1 _ y w 9 (own_large _ _ h c.if-v-gt2147483647.true))

pub moved_by-u-requires : goal.moved_by-u-requires
moved_by-u-requires c = let a = c.args in own_reach a.minus a.v c.if-v-gt2147483647.false

pub returns-then-u-want : goal.returns-then-u-want
returns-then-u-want c =
    let p = c.requires in
    (refl, λ y w h. value_not _ _ p.1 _ y w 10 (own_unequal _ _ h c.if-v-gt2147483647.false c.if-want-ne0.true (λ e. c.if-u-want.true (c.moved_by-u.ensures ∙ e))))

pub returns-then-want-ne0 : goal.returns-then-want-ne0
returns-then-want-ne0 c =
    let p = c.requires in let a = c.args in let l = c.if-v-gt2147483647.false in
    let u = c.moved_by-u.ensures in
    value_stepped p.1 refl (sits_next p.1 _ _ 0 0 2 (rw u (own_small a.minus a.v l)) (omega arith) p.0.few)
    (λ y w h. let z = own_equal a.minus a.v h l c.if-want-ne0.true (sym u ∙ c.if-u-want.false) in
    value_adds _ _ p.1 _ y w [] Own _ _ _ z.0 (let few = p.0.few in omega arith) refl (omega arith) (rw (c.if-u-want.false ∙ z.1) (going codes-own)) refl)

pub returns-then-k-points : goal.returns-then-k-points
returns-then-k-points c =
    let p = c.requires in let a = c.args in let l = c.if-k-points.true in
    (refl, λ y w h. value_full _ _ p.1 _ y w _ Own (own_free a.minus a.v h c.if-v-gt2147483647.false c.if-want-ne0.false) (omega arith))

pub put-requires : goal.put-requires
put-requires c =
    let a = c.args in rw c.moved_by-u.ensures (own_small a.minus a.v c.if-v-gt2147483647.false)

pub returns : goal.returns
returns c =
    let p = c.requires in let a = c.args in
    let l = c.if-v-gt2147483647.false in let u = c.moved_by-u.ensures in let k = c.if-k-points.false in
    value_stepped p.1 refl (sits_next p.1 _ _ 0 0 2 (rw u (own_small a.minus a.v l)) (omega arith) (omega arith))
    (λ y w h. value_adds _ _ p.1 _ y w _ Own _ _ _ (own_free a.minus a.v h l c.if-want-ne0.false) (omega arith) refl refl (rw u (going codes-own))
    (rw u at c.put.ensures))
