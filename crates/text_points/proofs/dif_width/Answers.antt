-- `text_points::dif_width` meets its contract: the bytes of the DIF for y after p.
use mathlib.Core.Path.{ap, ◌∙◌}
use Prim.Native.Nat.{ℕ, ◌+◌}
use native.Mathlib.Omega.{arith}
use Rattle.table_text.specs.Digits.{further}
use Rattle.text_points.proofs.dif_width.Goals as goal

pub returns : goal.returns
returns c =
    let n = c.further_digits.ensures in
    (ap (λ (x : ℕ). 1 + x) (n.0 ∙ ap (further 9) c.distance.ensures), omega (arith, n.1))
