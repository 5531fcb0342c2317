-- `table_value::dup_value` meets its contract: a DUP with the count v (01, "c is at least 2").
use mathlib.Core.Path.{◌≡◌, refl, subst}
use Prim.Native.Nat.{ℕ, ◌+◌, ◌-◌}
use native.Mathlib.Omega.{arith}
use Rattle.table_spec.specs.Values.{times}
use Rattle.table_numbers.specs.Numbers.{Token}
use Rattle.table_value.proofs.Turns.{value_not}
use Rattle.table_value.proofs.Meanings.{dup_nowhere, dup_few}
use Rattle.table_value.proofs.dup_value.Goals as goal

pub returns-then-form-lt2 : goal.returns-then-form-lt2
returns-then-form-lt2 c = let p = c.requires in (refl, λ y w h. value_not _ _ p.3 _ y w 8 (dup_nowhere _ h c.if-form-lt2.true))

pub returns-then-v-lt2 : goal.returns-then-v-lt2
returns-then-v-lt2 c = let p = c.requires in (refl, λ y w h. value_not _ _ p.3 _ y w 8 (dup_few _ h c.if-v-lt2.true))

pub same_again-requires : goal.same_again-requires
same_again-requires c =
    let p = c.requires in let a = c.args in let l = c.if-v-lt2.false in
    let e : a.v ≡ a.v - 1 + 1 = omega arith in
    let t = subst (λ (n : ℕ). Token a.s.now a.c.at (times n) a.j) e p.3 in
    (record { sits = p.0; most = p.1; some = omega arith; small = omega arith; token = t }, c.if-form-lt2.false, c.if-form-lt-DIF.true)

pub steps_again-requires : goal.steps_again-requires
steps_again-requires c =
    let p = c.requires in let a = c.args in let l = c.if-v-lt2.false in
    let e : a.v ≡ a.v - 1 + 1 = omega arith in
    let t = subst (λ (n : ℕ). Token a.s.now a.c.at (times n) a.j) e p.3 in
    (record { sits = p.0; most = p.1; some = omega arith; small = omega arith; token = t }, c.if-form-lt-DIF.false)
