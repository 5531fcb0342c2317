-- The data blocks of a file that is not refused, found in one pass with no stack: a block that holds blocks has said LINK, so at END only the block that the last TITLE opened can be a data block.
use Rattle.std.specs.Prelude.{ℕ, zero, suc, ◌+◌, length}
use mathlib.Core.List.{List, [], ◌∷◌}
use Rattle.terms.specs.Logic.{pick}
use Rattle.label_spec.specs.Names.{sames, TITLE, END}
use Rattle.label_spec.specs.Labels.{Walk, over, bad, label}
use Rattle.label_spec.specs.Records.{mark_of}
use Rattle.compound_spec.specs.declared.Block.{Block}
use Rattle.compound_spec.specs.Blocks.{says}

-- The block that the last TITLE opened: it is still open and has not said LINK, its TITLE's `##` and `=` stand at these places; or it is no data block.
pub data Last : Type 0 where
  plain : ℕ → ℕ → Last
  none : Last

-- At END, whose `##` stands at x and `=` at q: K is the rest, after n blocks more.
abbrev pub shut : (ℕ → Last → List Block) → ℕ → ℕ → ℕ → Last → List Block
shut K n x q (plain m e) = record { title = m; eq = e; end = x; last = q } ∷ K n none
shut K n x q none = K (suc n) none

-- A label with the name v, whose text runs to b, where n data blocks are still looked for.
unfoldable pub passed : List ℕ → (ℕ → Last → List Block) → ℕ → ℕ → List ℕ → ℕ → ℕ → Last → List Block
passed s K x q v b zero t = []
passed s K x q v b (suc n) t = pick (sames v END) (shut K n x q t) (pick (sames v TITLE) (K (suc n) (plain x q)) (K (suc n) (pick (says s v (q + 1) b) none t)))

-- The first n data blocks of a walk.
unfoldable pub flat : List ℕ → Walk → ℕ → Last → List Block
flat s over n t = []
flat s (bad x rest) n t = []
flat s (label x y q v rest) n t = passed s (flat s rest) x q v (mark_of (length s) rest) n t
