-- `table_shorts::short_count` meets its contract: the count of a DUP of at most four digits.
-- nothing was taken, which says nothing
use mathlib.Core.Path.{◌≡◌, ap}
use Prim.Native.Nat.{ℕ, ◌≤◌, ◌<◌}
use native.Mathlib.Omega.{arith}
use Rattle.alphabet.specs.declared.Run.{Run}
use Rattle.alphabet.specs.Standing.{digit_seen_not}
use Rattle.table_shorts.proofs.Shorts.{count_short}
use Rattle.table_shorts.proofs.short_count.Goals as goal

none : {A : Type 0} {at b : ℕ} (r : Run) → r ≡ record { v = 0; at = at; b = b } → 2 ≤ r.v → A
none r e l = let z = ap (λ (x : Run). x.v) e in absurd (omega arith)

pub returns-then-b-lt83 : goal.returns-then-b-lt83
returns-then-b-lt83 c = none _ c.nothing.ensures

pub few_digits-r-requires : goal.few_digits-r-requires
few_digits-r-requires c =
    let high : c.args.b < 91 = omega arith in
    let l = c.requires.0 in let h = high in let g = c.if-b-lt83.false in (omega arith, omega arith)

pub returns-then-is_digit : goal.returns-then-is_digit
returns-then-is_digit c = none _ c.nothing-then-is_digit.ensures

pub returns : goal.returns
returns c =
    let high : c.args.b < 91 = omega arith in
    let p = c.requires in let l = p.0 in let h = high in
    λ _. count_short _ _ (omega arith) p.1 c.if-b-lt83.false (omega arith) c.few_digits-r.ensures
    (digit_seen_not _ _ c.few_digits-r.ensures.stands c.is_digit.ensures c.if-is_digit.false)
