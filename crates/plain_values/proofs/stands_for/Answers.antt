-- `plain_values::stands_for` meets its contract: by the entry of its first byte: a DUP, a difference, or an ordinate of its own.
use Prim.Native.Nat.{◌<◌, ◌≤◌}
use native.Mathlib.Omega.{arith}
use Rattle.table_numbers.proofs.NumberLaws.{below_ten, dup_at, dif_at, own_at_all}
use Rattle.plain_values.specs.Means.{form_of}
use Rattle.plain_values.proofs.stands_for.Goals as goal

pub dup_points-requires : goal.dup_points-requires
dup_points-requires c =
    let p = c.requires in let a = c.args in let z = dup_at a.e a.v c.if-kind-eq1.true in
    (p.0, p.1, rw z.1 at p.4)

pub returns-then-kind-eq1 : goal.returns-then-kind-eq1
returns-then-kind-eq1 c = let a = c.args in let z = dup_at a.e a.v c.if-kind-eq1.true in rw z.0 c.dup_points.ensures

pub dif_points-requires : goal.dif_points-requires
dif_points-requires c =
    let p = c.requires in let a = c.args in (p.0, (let b = below_ten a.e in let x = p.4 in omega arith))

pub returns-then-e-eq1 : goal.returns-then-e-eq1
returns-then-e-eq1 c =
    let a = c.args in let d = c.if-e-eq1.true in let l : 32 ≤ a.e = omega arith in let h : a.e < 64 = omega arith in
    rw (dif_at a.e a.v l h) (c.dif_points.ensures (form_of a.form))

pub returns : goal.returns
returns c =
    let p = c.requires in let a = c.args in
    rw (own_at_all a.e a.v c.if-kind-eq1.false c.if-e-eq1.false p.2 p.3) (c.own_points.ensures a.q (form_of a.form))
