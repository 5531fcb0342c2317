-- `table_value::missing` meets its contract: a missing ordinate.
use mathlib.Core.Path.{refl}
use mathlib.Core.List.{[], ◌∷◌}
use Prim.Native.Nat.{◌-◌}
use native.Mathlib.Omega.{arith}
use Rattle.table_spec.specs.Values.{Gap}
use Rattle.table_value.specs.States.{going, gap as codes-gap}
use Rattle.table_value.proofs.Turns.{value_not, value_full, value_adds, value_stepped}
use Rattle.table_numbers.proofs.NumberLaws.{gap_token}
use Rattle.table_value.proofs.Meanings.{gap_asked, gap_free}
use Rattle.table_value.proofs.missing.Goals as goal

pub returns-then-want-ne0 : goal.returns-then-want-ne0
returns-then-want-ne0 c =
    let p = c.requires in let t = gap_token _ _ p.1 in
    (refl, λ y w h. value_not _ _ t _ y w 10 (gap_asked h c.if-want-ne0.true))

pub returns-then-k-points : goal.returns-then-k-points
returns-then-k-points c =
    let p = c.requires in let t = gap_token _ _ p.1 in let l = c.if-k-points.true in
    (refl, λ y w h. value_full _ _ t _ y w (0 ∷ []) Gap (gap_free h c.if-want-ne0.false) (omega arith))

pub returns : goal.returns
returns c =
    let p = c.requires in let t = gap_token _ _ p.1 in let l = c.if-k-points.false in
    value_stepped t refl (record { some = omega arith; high = t.high; small = omega arith; size = omega arith; few = omega arith })
    (λ y w h. value_adds _ _ t _ y w (0 ∷ []) Gap _ _ _ (gap_free h c.if-want-ne0.false) (omega arith) refl refl (going codes-gap)
    c.put.ensures)
