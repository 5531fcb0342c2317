-- `table_value::difference` meets its contract: a difference.
use mathlib.Core.Path.{refl, sym, ◌∙◌}
use mathlib.Core.List.{[], ◌∷◌}
use Prim.Native.Nat.{◌-◌}
use native.Mathlib.Omega.{arith}
use lib.Dec.{leb}
use Rattle.table_value.specs.States.{going, dif}
use Rattle.table_value.proofs.Turns.{value_not, value_full, value_adds, value_stepped}
use Rattle.table_ordinates.proofs.Moves.{shift_some}
use Rattle.table_value.proofs.Meanings.{dif_none, dif_out, dif_adds}
use Rattle.table_value.proofs.Turns.{sits_next}
use Rattle.table_value.proofs.difference.Goals as goal

pub returns-then-q-eq0 : goal.returns-then-q-eq0
returns-then-q-eq0 c = let p = c.requires in (refl, λ y w h. value_not _ _ p.4 _ y w 8 (dif_none _ _ h c.if-q-eq0.true))

pub returns-then-u-eq0 : goal.returns-then-u-eq0
returns-then-u-eq0 c =
    let p = c.requires in (refl, λ y w h. value_not _ _ p.4 _ y w 9 (dif_out _ _ h c.if-q-eq0.false (sym c.shifted-u.ensures ∙ c.if-u-eq0.true)))

pub returns-then-k-points : goal.returns-then-k-points
returns-then-k-points c =
    let p = c.requires in let a = c.args in let l = c.if-k-points.true in
    let z = shift_some (leb 48 a.e) a.v a.c.q _ c.shifted-u.ensures c.if-u-eq0.false in
    (refl, λ y w h. value_full _ _ p.4 _ y w (_ ∷ []) _ (dif_adds _ _ _ h c.if-q-eq0.false z) (omega arith))

pub put-requires : goal.put-requires
put-requires c =
    let a = c.args in
    (shift_some (leb 48 a.e) a.v a.c.q _ c.shifted-u.ensures c.if-u-eq0.false).high

pub returns : goal.returns
returns c =
    let p = c.requires in let a = c.args in
    let k = c.if-k-points.false in let n = c.if-q-eq0.false in
    let z = shift_some (leb 48 a.e) a.v a.c.q _ c.shifted-u.ensures c.if-u-eq0.false in
    value_stepped p.4 refl (sits_next p.4 _ _ 0 _ _ z.high p.1 (omega arith))
    (λ y w h. value_adds _ _ p.4 _ y w (_ ∷ []) _ _ _ _ (dif_adds _ _ _ h n z) (omega arith) refl refl (going (dif p.2 p.3 z.low)) c.put.ensures)
