-- `text_digits::digits_in` meets its contract: the entry for a number's bits makes its digits the high half of a sum.
-- the entry of a table that is the counts
use mathlib.Core.Path.{◌≡◌, ap}
use mathlib.Core.List.{List}
use Prim.Native.Nat.{ℕ, ◌-◌}
use native.Mathlib.Omega.{arith}
use lib.Count.{count_leading_zeros}
use lib.ListN.{get_or}
use Rattle.table_text.specs.DigitLaws.{further_le}
use Rattle.text_digits.specs.Counts.{counts}
use Rattle.text_digits.proofs.CountSteps.{zeros_some, zeros_in, zeros_small, zeros_count}
use Rattle.text_digits.proofs.digits_in.Goals as goal

entry_is : (l : List ℕ) (v : ℕ) → l ≡ counts → get_or l (count_leading_zeros 32 v - 1) 0 ≡ get_or counts (count_leading_zeros 32 v - 1) 0
entry_is l v e = ap (λ (t : List ℕ). get_or t (count_leading_zeros 32 v - 1) 0) e

pub overflow_cast-zeros-2 : goal.overflow_cast-zeros-2
overflow_cast-zeros-2 c = omega (arith, zeros_in c.args.v c.requires.1)

pub overflow_sub-entry : goal.overflow_sub-entry
overflow_sub-entry c = zeros_some c.args.v c.requires.1

pub offset_bounds-d-zeros : goal.offset_bounds-d-zeros
offset_bounds-d-zeros c = omega (arith, zeros_in c.args.v c.requires.1)

pub bounds-d-zeros : goal.bounds-d-zeros
bounds-d-zeros c = zeros_in c.args.v c.requires.1

pub overflow_add-sum : goal.overflow_add-sum
overflow_add-sum c =
    let p = c.requires in
    let a = c.args in
    omega (arith, p.1, entry_is a.d.now a.v p.0, zeros_small a.v p.1)

pub returns : goal.returns
returns c =
    let p = c.requires in
    let a = c.args in
    let e = entry_is a.d.now a.v p.0 in
    let z = zeros_count a.v p.1 in
    rw e (z, omega (arith, z, further_le 9 a.v))
