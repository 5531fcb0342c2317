-- `quotient` meets its contract: by the difference of the exponents; the laws are of Division. Assumes nothing.
use native.Mathlib.Omega.{arith}
use native.Mathlib.Nat.{mul-pos}
use Rattle.quotient.proofs.Division.{down, up, tiny, nil, huge, large, within, product, positive}
use Rattle.quotient.proofs.quotient.Goals as goal

pub returns-then-down-gt9 : goal.returns-then-down-gt9
returns-then-down-gt9 c =
    rw c.zero.ensures (down _ _ _ _ _ _ c.requires.1 _ (omega arith) (tiny _ _ _ _ _ c.requires.0 c.requires.1 c.if-down-gt9.true))

pub overflow_mul-b : goal.overflow_mul-b
overflow_mul-b c = omega (arith, product c.args.m2 _ _ c.requires.2 (omega arith) c.power-p.ensures)

pub limited-requires : goal.limited-requires
limited-requires c =
    (mul-pos c.requires.1 (positive _ _ c.power-p.ensures), product c.args.m2 _ _ c.requires.2 (omega arith) c.power-p.ensures, omega arith)

pub returns-then-e1-e2 : goal.returns-then-e1-e2
returns-then-e1-e2 c = down _ _ _ _ _ _ c.requires.1 _ (omega arith) (rw c.power-p.ensures at c.limited.ensures)

pub returns-then-m1-eq0 : goal.returns-then-m1-eq0
returns-then-m1-eq0 c =
    rw c.zero-then-m1-eq0.ensures (up _ _ _ _ _ _ c.requires.1 _ (omega arith) (nil _ _ _ _ _ c.if-m1-eq0.true c.requires.1))

pub returns-then-up-gt18 : goal.returns-then-up-gt18
returns-then-up-gt18 c =
    let n = c.if-m1-eq0.false in
    rw c.beyond.ensures
    (up _ _ _ _ _ _ c.requires.1 _ (omega arith) (huge c.args.limit c.args.minus _ _ _ c.requires.3 c.requires.1 c.requires.2 n c.if-up-gt18.true))

pub nonzero_div-most : goal.nonzero_div-most
nonzero_div-most c = positive _ _ c.power-p-2.ensures

pub returns-then-m1-most : goal.returns-then-m1-most
returns-then-m1-most c =
    let p = c.power-p-2.ensures in
    rw c.beyond-then-m1-most.ensures
    (up _ _ _ _ _ _ c.requires.1 _ (omega arith)
    (rw p at (large c.args.limit c.args.minus c.args.m1 c.args.m2 _ c.requires.3 c.requires.1 c.requires.2 (positive _ _ p) c.if-m1-most.true)))

pub overflow_mul-a : goal.overflow_mul-a
overflow_mul-a c = omega (arith, within _ _ (positive _ _ c.power-p-2.ensures) c.if-m1-most.false)

pub limited-requires-2 : goal.limited-requires-2
limited-requires-2 c = (c.requires.1, omega arith, within _ _ (positive _ _ c.power-p-2.ensures) c.if-m1-most.false)

pub returns : goal.returns
returns c = up _ _ _ _ _ _ c.requires.1 _ (omega arith) (rw c.power-p-2.ensures at c.limited-2.ensures)
