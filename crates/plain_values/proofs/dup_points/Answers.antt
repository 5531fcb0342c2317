-- `plain_values::dup_points` meets its contract: 8, or copies by the form of what is repeated.
use Prim.Native.Nat.{ℕ, ◌-◌}
use native.Mathlib.Omega.{arith}
use Rattle.table_spec.specs.Values.{times, Own, Gap, By}
use Rattle.plain_values.specs.Means.{form_of, Means, same_again}
use Rattle.plain_values.proofs.ValueLaws.{dup_few, dup_dup, dup_own, dup_gap, down}
use Rattle.plain_values.proofs.dup_points.Goals as goal

pub returns-then-v-lt2 : goal.returns-then-v-lt2
returns-then-v-lt2 c = let a = c.args in dup_few a.q (form_of a.form) a.v c.if-v-lt2.true

pub step_points-requires : goal.step_points-requires
step_points-requires c =
    let p = c.requires in let r = rw c.in-Dif.is at p.1 in let l = c.if-v-lt2.false in let h = p.2 in
    (r.0, p.0, r.1, omega arith, omega arith)

pub returns-in-Own : goal.returns-in-Own
returns-in-Own c =
    let a = c.args in let p = c.requires in let l = c.if-v-lt2.false in let h = p.2 in
    rw (c.same_points.ensures, c.in-Own.is)
    (down (λ (i : ℕ). Means a.q Own (times i) (same_again a.q (a.v - 1))) a.v l (dup_own a.q (a.v - 1) p.0 (omega arith) (omega arith)))

pub returns-in-Missing : goal.returns-in-Missing
returns-in-Missing c =
    let a = c.args in let p = c.requires in let l = c.if-v-lt2.false in let h = p.2 in
    rw (c.same_points-in-Missing.ensures, c.in-Missing.is)
    (down (λ (i : ℕ). Means a.q Gap (times i) (same_again a.q (a.v - 1))) a.v l (dup_gap a.q (a.v - 1) p.0 (omega arith) (omega arith)))

pub returns-in-Dif : goal.returns-in-Dif
returns-in-Dif c =
    let a = c.args in let l = c.if-v-lt2.false in let r = c.step_points.result in
    rw c.in-Dif.is (down (λ (i : ℕ). Means a.q (By c.in-Dif.minus c.in-Dif.d) (times i) r) a.v l c.step_points.ensures)

pub returns-in-Dup : goal.returns-in-Dup
returns-in-Dup c = let a = c.args in rw c.in-Dup.is (dup_dup a.q _ a.v)
