-- `table_value::steps_again` meets its contract: a DUP of a difference.
use mathlib.Core.Path.{refl, sym, ◌∙◌}
use Prim.Native.Nat.{◌-◌, ◌*◌}
use native.Mathlib.Omega.{arith}
use lib.Dec.{leb}
use Rattle.table_spec.specs.Values.{By}
use Rattle.table_value.specs.States.{going, dup_dif}
use Rattle.table_value.proofs.Turns.{value_not, value_full, value_adds, value_stepped}
use Rattle.table_ordinates.proofs.Moves.{copies_length, steps_last, shift_some, reaches, far_small}
use Rattle.table_value.proofs.Meanings.{repeats, dup_out, dup_steps}
use Rattle.table_value.proofs.Turns.{sits_next}
use Rattle.table_value.proofs.steps_again.Goals as goal

pub overflow_mul-far : goal.overflow_mul-far
overflow_mul-far c = let d = c.requires.0 in let a = c.args in let z = far_small a.c.step a.n d.sits.size d.small in omega arith

pub shifted-u-requires : goal.shifted-u-requires
shifted-u-requires c = let d = c.requires.0 in let a = c.args in (d.sits.small, far_small a.c.step a.n d.sits.size d.small)

pub returns-then-u-eq0 : goal.returns-then-u-eq0
returns-then-u-eq0 c =
    let p = c.requires in let d = p.0 in let a = c.args in
    (refl, λ y w h. value_not _ _ d.token _ y w 9 (dup_out a.n d.some d.sits.small (repeats a.n h p.1) (sym c.shifted-u.ensures ∙ c.if-u-eq0.true)))

pub returns-then-end-points : goal.returns-then-end-points
returns-then-end-points c =
    let p = c.requires in let d = p.0 in let a = c.args in let l = c.if-end-points.true in
    let n = copies_length a.n (By (leb 48 a.c.form) a.c.step) a.c.q in
    let z = shift_some (leb 48 a.c.form) (a.c.step * a.n) a.c.q _ c.shifted-u.ensures c.if-u-eq0.false in
    (refl, λ y w h. value_full _ _ d.token _ y w _ _ (dup_steps a.n d.some d.sits.small (repeats a.n h p.1) z) (omega arith))

pub repeat-requires : goal.repeat-requires
repeat-requires c =
    let p = c.requires in let d = p.0 in let a = c.args in let l = c.if-end-points.false in
    let z = shift_some (leb 48 a.c.form) (a.c.step * a.n) a.c.q _ c.shifted-u.ensures c.if-u-eq0.false in
    (omega arith, d.sits.small, reaches (leb 48 a.c.form) a.c.step a.n a.c.q z.inside)

pub returns : goal.returns
returns c =
    let p = c.requires in let d = p.0 in let a = c.args in
    let l = c.if-end-points.false in
    let n = copies_length a.n (By (leb 48 a.c.form) a.c.step) a.c.q in
    let z = shift_some (leb 48 a.c.form) (a.c.step * a.n) a.c.q _ c.shifted-u.ensures c.if-u-eq0.false in
    value_stepped d.token refl (sits_next d.token _ _ 0 0 1 z.high (omega arith) (omega arith))
    (λ y w h. let g = repeats a.n h p.1 in
    value_adds _ _ d.token _ y w _ _ _ _ _ (dup_steps a.n d.some d.sits.small g z) (omega arith) refl (omega arith)
    (rw (g.before, steps_last (leb 48 a.c.form) a.c.step a.n a.c.q, ← z.is) (going (dup_dif z.low))) c.repeat.ensures)
