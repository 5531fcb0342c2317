-- `text_digits::ones` meets its contract: the ones of a number below a hundred stand at their place in the table.
use mathlib.Core.Path.{ap, ◌∙◌}
use mathlib.Core.List.{List}
use Prim.Native.Nat.{ℕ, ◌+◌, ◌*◌}
use lib.ListN.{get_or}
use Rattle.text_digits.specs.Pairs.{is_ones}
use Rattle.text_digits.proofs.ones.Goals as goal

pub returns : goal.returns
returns c =
    let r = c.args.r in
    ap (λ (l : List ℕ). get_or l (2 * r + 1) 0) c.requires.0 ∙ is_ones r c.requires.1
