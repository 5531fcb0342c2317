-- `table_shorts::short` meets its contract: the difference at a place, if it has at most four digits.
-- the letter is none past R
use mathlib.Core.Path.{ap}
use mathlib.Core.Logic.{inl, inr}
use Prim.Native.Nat.{◌-◌, ◌*◌, ◌/◌, ◌%◌, ◌<◌}
use native.Mathlib.Omega.{arith}
use Rattle.alphabet.specs.declared.Run.{Run}
use Rattle.alphabet.specs.Standing.{digit_seen_not}
use Rattle.table_shorts.proofs.Shorts.{letter_short}
use Rattle.table_shorts.proofs.short.Goals as goal

pub few_digits-r-requires : goal.few_digits-r-requires
few_digits-r-requires c =
    let high : let b = c.args.b in b - b / 32 % 2 * 32 < 83 = omega arith in
    let l = c.requires.0 in let h = high in let g = c.if-letter-lt74.false in (omega arith, omega arith)

pub returns-then-is_digit : goal.returns-then-is_digit
returns-then-is_digit c = inl (ap (λ (r : Run). r.at) c.nothing.ensures)

pub returns : goal.returns
returns c =
    let high : let b = c.args.b in b - b / 32 % 2 * 32 < 83 = omega arith in
    let p = c.requires in let l = p.0 in let h = high in
    inr (letter_short _ _ (omega arith) p.1 c.if-letter-lt74.false (omega arith) c.few_digits-r.ensures
    (digit_seen_not _ _ c.few_digits-r.ensures.stands c.is_digit.ensures c.if-is_digit.false))
