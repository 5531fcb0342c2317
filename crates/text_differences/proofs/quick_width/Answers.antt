-- `text_differences::quick_width` meets its contract: the bytes of a difference that stands alone and has at most four digits; else more than a line has.
use mathlib.Core.Path.{ap, ◌∙◌}
use Prim.Native.Nat.{ℕ, ◌+◌}
use native.Mathlib.Omega.{arith}
use Rattle.table_text.specs.Digits.{further}
use Rattle.text_differences.proofs.LoneSteps.{lone_alone}
use Rattle.text_differences.proofs.quick_width.Goals as goal

pub returns : goal.returns
returns c =
    let p = c.requires in
    let n = c.small_further.ensures in
    let e = ap (λ (x : ℕ). 1 + x) n.0 in (
      omega (arith, n.1),
      λ _. (
        e ∙ ap (λ (x : ℕ). 1 + further 9 x) p.3 ∙ lone_alone _ _ _ c.if-y-eq0.false c.if-p-z.false,
        e,
        omega (arith, c.if-v-gt9999.false),
      ),
    )
