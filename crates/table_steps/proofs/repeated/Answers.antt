-- `table_steps::repeated` meets its contract: the way past the DUP of the last difference.
-- where a DUP was found: the start of the code, that a difference stands before it, its count and its token
use mathlib.Core.Path.{◌≡◌, subst}
use Prim.Native.Nat.{ℕ, ◌+◌, ◌-◌, ◌*◌, ◌<◌, ◌≤◌}
use native.Mathlib.Omega.{arith}
use lib.Dec.{ltb}
use Rattle.table_spec.specs.Values.{times}
use Rattle.table_numbers.specs.Numbers.{Token}
use Rattle.table_ordinates.proofs.Moves.{reaches}
use Rattle.table_steps.specs.Ways.{apart}
use Rattle.table_steps.proofs.Ways.{onward_none, dup_turns, dup_stepped, onward_dup}
use Rattle.table_steps.proofs.repeated.Goals as goal

pub returns-then-before-eq0 : goal.returns-then-before-eq0
returns-then-before-eq0 c = onward_none _ _ c.requires.0.safe

pub returns-then-r-lt2 : goal.returns-then-r-lt2
returns-then-r-lt2 c = onward_none _ _ c.requires.0.safe

pub returns-then-n-end : goal.returns-then-n-end
returns-then-n-end c = onward_none _ _ c.requires.0.safe

pub overflow_mul-d : goal.overflow_mul-d
overflow_mul-d c =
    let fresh : c.args.w.before ≡ 0 → ⊥ = c.if-before-eq0.false in
    let count : ℕ = c.short_count-r.result.v in
    let some : 1 ≤ count - 1 = let h = c.if-r-lt2.false in omega arith in
    let turns : (apart c.args.w.before c.args.w.q * (count - 1) ≤ c.args.w.q) × (c.args.w.q < 4294967296) = dup_turns _ c.requires.0 _ fresh some c.if-n-end.false in
    let z = turns in let l = z.0 in let h = z.1 in let e = c.apart-d.ensures in rw e (omega arith)

pub turned-u-requires : goal.turned-u-requires
turned-u-requires c =
    let fresh : c.args.w.before ≡ 0 → ⊥ = c.if-before-eq0.false in
    let count : ℕ = c.short_count-r.result.v in
    let some : 1 ≤ count - 1 = let h = c.if-r-lt2.false in omega arith in
    let turns : (apart c.args.w.before c.args.w.q * (count - 1) ≤ c.args.w.q) × (c.args.w.q < 4294967296) = dup_turns _ c.requires.0 _ fresh some c.if-n-end.false in
    rw c.apart-d.ensures turns

pub repeat-requires : goal.repeat-requires
repeat-requires c =
    let fresh : c.args.w.before ≡ 0 → ⊥ = c.if-before-eq0.false in
    let count : ℕ = c.short_count-r.result.v in
    let some : 1 ≤ count - 1 = let h = c.if-r-lt2.false in omega arith in
    let turns : (apart c.args.w.before c.args.w.q * (count - 1) ≤ c.args.w.q) × (c.args.w.q < 4294967296) = dup_turns _ c.requires.0 _ fresh some c.if-n-end.false in
    let a = c.args in let f = c.requires.0 in let m = f.safe.most in let g = f.some in let k = c.if-n-end.false in
    let x = (dup_stepped _ f _ fresh some k (rw c.apart-d.ensures at c.turned-u.ensures)).shifts.inside in (
      omega arith,
      turns.1,
      rw c.apart-d.ensures (reaches (ltb a.w.q a.w.before) (apart a.w.before a.w.q) _ a.w.q x),
    )

pub overflow_sub-result : goal.overflow_sub-result
overflow_sub-result c = let h = c.if-n-end.false in omega arith

pub returns : goal.returns
returns c =
    let fresh : c.args.w.before ≡ 0 → ⊥ = c.if-before-eq0.false in
    let count : ℕ = c.short_count-r.result.v in
    let some : 1 ≤ count - 1 = let h = c.if-r-lt2.false in omega arith in
    let token : Token c.args.s.now c.args.w.at (times (count - 1 + 1)) c.short_count-r.result.at = let h = c.if-r-lt2.false in let e : count ≡ count - 1 + 1 = omega arith in
    subst (λ (n : ℕ). Token c.args.s.now c.args.w.at (times n) c.short_count-r.result.at) e
    (c.short_count-r.ensures h).1 in
    let a = c.args in let f = c.requires.0 in
    onward_dup _ f _ fresh some c.if-n-end.false (rw c.apart-d.ensures at c.turned-u.ensures) _ _ token (rw c.apart-d.ensures at c.repeat.ensures)
