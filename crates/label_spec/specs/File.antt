-- 01, The file: what the labels of a file answer. Order: 19; 21; then 20, 22, 23, 24 in one walk.
use Rattle.std.specs.Prelude.{Bool, true, false, List, [], ◌∷◌, ◌++◌, ℕ, ◌+◌, leb, length, Result, Ok, Err}
use Rattle.terms.specs.Refusals.{fault_at}
use Rattle.terms.specs.Logic.{pick}
use Rattle.label_spec.specs.Names.{sames, TITLE, END}
use Rattle.label_spec.specs.Labels.{Walk, over, bad, label, from, hashed}
use Rattle.label_spec.specs.Space.{past_space}
use Rattle.label_spec.specs.declared.Edges.{Edges}
use Rattle.label_spec.specs.declared.Places.{Places}
use Rattle.terms.specs.declared.Fault.{Fault}
use Rattle.label_spec.specs.Parts.{edges_with, places_with}

-- "At most 1,048,576 bytes" (19).
abbrev pub longest_file : ℕ
longest_file = 1048576

-- The label at p, if its name is TITLE; otherwise 21 at p.
unfoldable pub titled : ℕ → Walk → Result Edges Fault
titled p over = Err (fault_at 21 p)
titled p (bad x rest) = Err (fault_at 21 p)
titled p (label x n e v rest) = pick (sames v TITLE) (Ok (edges_with x e)) (Err (fault_at 21 p))

unfoldable pub opened_at : List ℕ → ℕ → Result Edges Fault
opened_at s p = pick (hashed s p) (titled p (from s p true)) (Err (fault_at 21 p))

-- "Only blank or comment lines precede TITLE": the first byte that is no blank, line end or comment is that of TITLE's `##` (21).
unfoldable pub opened : List ℕ → Result Edges Fault
opened s = opened_at s (past_space s 0)

-- Is w one of these names?
unfoldable pub member : List ℕ → List (List ℕ) → Bool
member w [] = false
member w (v ∷ vs) = pick (sames v w) true (member w vs)

-- Does a label before have this name? Empty names are excepted (23).
unfoldable pub twice : List ℕ → List (List ℕ) → Bool
twice [] done = false
twice (b ∷ w) done = member (b ∷ w) done

-- The walk after TITLE, up to END or to the first fault, in a text of this length, after labels with the names `done`:
-- 22 no END, 20 a bad label, 24 TITLE again, 23 a label twice. What follows END is not read.
unfoldable pub judged : ℕ → List (List ℕ) → Walk → Result Edges Fault
judged len done over = Err (fault_at 22 len)
judged len done (bad x rest) = Err (fault_at 20 x)
judged len done (label x n e v rest) =
    pick (sames v END) (Ok (edges_with x e))
    (pick (sames v TITLE) (Err (fault_at 24 x))
    (pick (twice v done) (Err (fault_at 23 x)) (judged len (done ++ v ∷ []) rest)))

-- TITLE stands at m, its `=` at e.
unfoldable pub placed : ℕ → ℕ → Result Edges Fault → Result Places Fault
placed m e (Ok y) = Ok (places_with m e y.mark)
placed m e (Err r) = Err r

unfoldable pub after_title : List ℕ → Result Edges Fault → Result Places Fault
after_title s (Ok x) = placed x.mark x.eq (judged (length s) [] (from s (x.eq + 1) false))
after_title s (Err r) = Err r

-- What the labels of a file answer.
unfoldable pub labelled : List ℕ → Result Places Fault
labelled s = pick (leb (length s) longest_file) (after_title s (opened s)) (Err (fault_at 19 0))
