-- `text_points::copy_width` meets its contract: the bytes that one point more adds to a group.
use mathlib.Core.Path.{◌≡◌, refl}
use Prim.Native.Nat.{◌+◌, ◌≤◌}
use native.Mathlib.Omega.{arith}
use lib.Dec.{eqb}
use lib.ListN.{length}
use mir.Val.{bool_byte}
use borrow.Author.Tests.{eq-eqb, eqb-true, eqb-false}
use Rattle.terms.specs.Logic.{by_case}
use Rattle.table_spec.specs.Groups.{dup_text}
use Rattle.text_points.proofs.PointSteps.{dup_first, dup_second, dup_same}
use Rattle.text_points.proofs.copy_width.Goals as goal
use Rattle.text_points.proofs.copy_width.Goals.{then-more-eq0, else-more-eq0}

pub returns : goal.returns
returns c =
    let m = c.args.more in
    rw c.from.ensures
    (elim c.if-more-eq0.branch [
      | then-more-eq0 w ↦ rw (w.from-is, eq-eqb m 0 w.if-more-eq0.true) (omega arith, λ _. dup_first m w.if-more-eq0.true)
      | else-more-eq0 w ↦
          rw w.from-is
          (by_case (λ t. eqb m 8 ≡ t → (bool_byte t ≤ 81) × (bool_byte t ≤ 80 → length (dup_text (m + 1)) ≡ length (dup_text m) + bool_byte t)) (eqb m 8)
          (λ _ e. (omega arith, λ _. dup_second m (eqb-true m 8 e))) (λ _ e. (omega arith, λ _. dup_same m w.if-more-eq0.false (eqb-false m 8 e) c.if-more-gt97.false)) refl)
    ])
