-- `table_value::same_again` meets its contract: a DUP of a value of its own, or of a missing one.
use mathlib.Core.Bool.{false}
use mathlib.Core.Path.{refl}
use Prim.Native.Nat.{◌-◌}
use native.Mathlib.Omega.{arith}
use Rattle.table_spec.specs.Values.{By}
use Rattle.table_value.specs.States.{going, dup_not}
use Rattle.table_value.proofs.Turns.{value_full, value_adds, value_stepped}
use Rattle.table_ordinates.proofs.Moves.{copies_length, same_last}
use Rattle.table_value.proofs.Meanings.{dup_same}
use Rattle.table_value.proofs.Turns.{sits_next}
use Rattle.table_value.proofs.same_again.Goals as goal

pub returns-then-end-points : goal.returns-then-end-points
returns-then-end-points c =
    let p = c.requires in let a = c.args in let d = p.0 in let l = c.if-end-points.true in let n = copies_length a.n (By false 0) a.c.q in
    (refl, λ y w h. let z = dup_same a.n h p.1 p.2 d.some in value_full _ _ d.token _ y w _ _ z.0 (omega arith))

pub returns : goal.returns
returns c =
    let p = c.requires in let a = c.args in let d = p.0 in
    let l = c.if-end-points.false in
    let n = copies_length a.n (By false 0) a.c.q in
    value_stepped d.token refl (sits_next d.token _ _ 0 0 0 d.sits.small (omega arith) (omega arith))
    (λ y w h. let z = dup_same a.n h p.1 p.2 d.some in
    value_adds _ _ d.token _ y w _ _ _ _ _ z.0 (omega arith) refl (omega arith) (rw (z.1, same_last a.n a.c.q) (going dup_not)) c.repeat.ensures)
