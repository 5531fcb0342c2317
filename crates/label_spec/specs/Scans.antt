-- 01, The file, 23: "each label is compared with every label before it", said as the code does it: two nested scans of the file, by places.
-- label_law's `Again` proves that `judge` is `judged` of `File`.
use Rattle.std.specs.Prelude.{Bool, true, false, List, [], ◌∷◌, ℕ, ltb, Result, Ok, Err}
use Rattle.terms.specs.Logic.{pick}
use Rattle.label_spec.specs.Names.{sames, TITLE, END}
use Rattle.label_spec.specs.Labels.{Walk, over, bad, label}
use Rattle.terms.specs.Refusals.{fault_at}
use Rattle.label_spec.specs.declared.Edges.{Edges}
use Rattle.terms.specs.declared.Fault.{Fault}
use Rattle.label_spec.specs.Parts.{edges_with}

-- The inner scan: does a label before the place m have the name w?
unfoldable pub known : ℕ → List ℕ → Walk → Bool
known m w over = false
known m w (bad x rest) = false
known m w (label x n e v rest) = pick (ltb x m) (pick (sames v w) true (known m w rest)) false

-- Empty names are excepted.
unfoldable pub clash : ℕ → List ℕ → Walk → Bool
clash m [] all = false
clash m (b ∷ w) all = known m (b ∷ w) all

-- The outer scan, among all the labels.
unfoldable pub judge : ℕ → Walk → Walk → Result Edges Fault
judge len all over = Err (fault_at 22 len)
judge len all (bad x rest) = Err (fault_at 20 x)
judge len all (label x n e v rest) =
    pick (sames v END) (Ok (edges_with x e))
    (pick (sames v TITLE) (Err (fault_at 24 x))
    (pick (clash x v all) (Err (fault_at 23 x)) (judge len all rest)))
