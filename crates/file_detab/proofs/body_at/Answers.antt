-- `file_detab::body_at` meets its contract: the body after XYDATA's list.
-- where the list is read
use mathlib.Core.List.{List}
use mathlib.Core.Path.{sym}
use Prim.Native.Nat.{ℕ}
use native.Mathlib.Omega.{arith}
use Rattle.file_detab.proofs.Bodies.{unlisted, body_listed}
use Rattle.file_detab.proofs.body_at.Goals as goal

pub overflow_add-result : goal.overflow_add-result
overflow_add-result c =
    let w = c.requires.xydata in
    let h = c.in_ok-start.ensures.1 in
    omega (arith, h, w.low, w.high)

pub returns-in_err-start : goal.returns-in_err-start
returns-in_err-start c =
    let file : List ℕ = c.args.file.now in
    rw c.from_residual.ensures (unlisted file c.args.x (sym c.in_err-start.ensures.0), tt)

pub returns : goal.returns
returns c =
    let file : List ℕ = c.args.file.now in
    let w = c.requires.xydata in
    let h = c.in_ok-start.ensures.1 in
    (body_listed file c.args.x _ (sym c.in_ok-start.ensures.0), record { low = omega (arith, h, w.low); high = w.high })
