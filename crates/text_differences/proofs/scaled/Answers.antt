-- `text_differences::scaled` meets its contract: a number of at most four digits, moved to the left until it has four.
use Rattle.table_text.specs.Digits.{further}
use Rattle.text_differences.specs.Small.{scales}
use mathlib.Core.Path.{◌≡◌, refl, ap, ◌∙◌}
use mathlib.Core.List.{List}
use Prim.Native.Nat.{ℕ}
use native.Mathlib.Omega.{arith}
use lib.ListN.{get_or}
use Rattle.table_text.proofs.SmallSteps.{further_few}
use Rattle.text_differences.proofs.SmallSteps.{scaled_small}
use Rattle.text_differences.proofs.scaled.Goals as goal

pub offset_bounds-k-n : goal.offset_bounds-k-n
offset_bounds-k-n c = omega (arith, further_few _ c.requires.1, c.requires.2)

pub bounds-k-n : goal.bounds-k-n
bounds-k-n c = omega (arith, further_few _ c.requires.1, c.requires.2)

pub overflow_mul-result : goal.overflow_mul-result
overflow_mul-result c =
    let a = c.args in
    let p = c.requires in
    let e : get_or a.k.now a.n 0 ≡ get_or scales (further 9 a.v) 0 = ap (λ (l : List ℕ). get_or l a.n 0) p.0 ∙ ap (λ (x : ℕ). get_or scales x 0) p.2 in
    rw e (omega (arith, scaled_small a.v p.1))

pub returns : goal.returns
returns c =
    let a = c.args in
    let p = c.requires in
    let e : get_or a.k.now a.n 0 ≡ get_or scales (further 9 a.v) 0 = ap (λ (l : List ℕ). get_or l a.n 0) p.0 ∙ ap (λ (x : ℕ). get_or scales x 0) p.2 in
    rw e (refl, scaled_small a.v p.1)
