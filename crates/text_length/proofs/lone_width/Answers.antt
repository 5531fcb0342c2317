-- `text_length::lone_width` meets its contract: the bytes of the DIF for y after p, if it stands alone before z; else more than a line has.
use mathlib.Core.Path.{◌∙◌}
use native.Mathlib.Omega.{arith}
use Rattle.text_differences.proofs.LoneSteps.{lone_gap, lone_again, lone_alone}
use Rattle.text_length.proofs.lone_width.Goals as goal
use Rattle.text_length.proofs.lone_width.Goals.{then-y-eq0-via-then-y-eq0, then-y-eq0-via-else-y-eq0+then-p-z}

pub returns-then-y-eq0 : goal.returns-then-y-eq0
returns-then-y-eq0 c =
    elim c.then-y-eq0.branch [
      | then-y-eq0-via-then-y-eq0 w ↦ (lone_gap _ _ _ w.if-y-eq0.true, omega arith)
      | then-y-eq0-via-else-y-eq0+then-p-z w ↦ (lone_again _ _ _ w.if-y-eq0.false w.if-p-z.true, omega arith)
    ]

pub returns : goal.returns
returns c =
    let w = c.dif_width.ensures in
    (w.0 ∙ lone_alone _ _ _ c.if-y-eq0.false c.if-p-z.false, omega (arith, w.1))
