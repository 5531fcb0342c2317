-- `table_value::value` meets its contract: the value at the place, whose number is v.
use Prim.Native.Nat.{◌-◌, ◌<◌, ◌≤◌}
use native.Mathlib.Omega.{arith}
use Rattle.table_numbers.proofs.NumberLaws.{below_ten, dup_at, dif_at, own_at_all}
use Rattle.table_value.proofs.value.Goals as goal

pub dup_value-requires : goal.dup_value-requires
dup_value-requires c =
    let p = c.requires in let a = c.args in let z = dup_at a.e a.v c.if-kind-eq1.true in
    (p.sits, p.most, rw z.1 at p.small, rw z.0 at p.token)

pub difference-requires : goal.difference-requires
difference-requires c =
    let p = c.requires in let a = c.args in let d = c.if-e-eq1.true in let l : 32 ≤ a.e = omega arith in
    let h : a.e < 64 = omega arith in
    (p.sits, (let b = below_ten a.e in let x = p.small in omega arith), l, h, rw (dif_at a.e a.v l h) at p.token)

pub own_value-requires : goal.own_value-requires
own_value-requires c =
    let p = c.requires in let a = c.args in
    (p.sits, rw (own_at_all a.e a.v c.if-kind-eq1.false c.if-e-eq1.false p.before_point p.kind) at p.token)
