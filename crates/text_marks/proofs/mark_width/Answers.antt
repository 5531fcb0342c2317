-- `text_marks::mark_width` meets its contract: a mark is one byte, or none.
use mathlib.Core.Path.{◌≡◌}
use mathlib.Core.Bool.{Bool, true, false}
use Prim.Native.Nat.{ℕ, ◌≤◌}
use native.Mathlib.Omega.{arith}
use mir.Val.{bool_byte}
use Rattle.terms.specs.Logic.{pick}
use Rattle.text_marks.proofs.mark_width.Goals as goal

one_or_none : (b : Bool) (n : ℕ) → n ≡ bool_byte b → (n ≡ pick b 1 0) × (n ≤ 1)
one_or_none true n e = (e, omega arith)
one_or_none false n e = (e, omega arith)

pub returns : goal.returns
returns c = one_or_none c.args.yes _ c.from.ensures
