-- 02, T-07 "Compound files": the blocks of a file, nested "to a depth of eight, the outermost being depth one". Assumes nothing.
use Rattle.std.specs.Prelude.{Bool, true, false, List, [], ◌∷◌, ◌++◌, ℕ, suc, ◌+◌, ◌-◌, leb, ltb, length, take, drop, Option, Some, None, Result, Ok, Err}
use Rattle.terms.specs.Logic.{pick, both}
use Rattle.label_spec.specs.Names.{sames, TITLE, END}
use Rattle.label_spec.specs.Labels.{Walk, over, bad, label, from}
use Rattle.keyword_spec.specs.Keywords.{is_word}
use Rattle.label_spec.specs.File.{longest_file, opened, twice}
use Rattle.label_spec.specs.Records.{mark_of}
use Rattle.file_spec.specs.Texts.{XYDATA}
use Rattle.compound_spec.specs.declared.Block.{Block}
use Rattle.label_spec.specs.declared.Span.{Span}
use Rattle.label_spec.specs.declared.Edges.{Edges}
use Rattle.terms.specs.declared.Fault.{Fault}
use Rattle.label_spec.specs.Parts.{span_of}

-- The names that T-07 speaks of, as they compare, and its word.
unfoldable pub DATATYPE : List ℕ
DATATYPE = 68 ∷ 65 ∷ 84 ∷ 65 ∷ 84 ∷ 89 ∷ 80 ∷ 69 ∷ []

unfoldable pub BLOCKS : List ℕ
BLOCKS = 66 ∷ 76 ∷ 79 ∷ 67 ∷ 75 ∷ 83 ∷ []

unfoldable pub LINK : List ℕ
LINK = 76 ∷ 73 ∷ 78 ∷ 75 ∷ []

-- "to a depth of eight"
abbrev pub deepest : ℕ
deepest = 8

-- Does a label with the name v, whose text runs from a to b, say that its block is LINK?
abbrev pub says : List ℕ → List ℕ → ℕ → ℕ → Bool
says s v a b = both (sames v DATATYPE) (is_word LINK (take (b - a) (drop a s)))

-- What a block has said so far: the places of its TITLE's `##` and `=`, the names of its own labels, whether it is LINK, whether it has a table, and its BLOCKS.
pub record Level : Type 0 where
  pub title : ℕ
  pub eq : ℕ
  pub names : List (List ℕ)
  pub link : Bool
  pub table : Bool
  pub blocks : Option Span

-- A block that has said nothing yet.
abbrev pub fresh : ℕ → ℕ → Level
fresh m e = record { title = m; eq = e; names = []; link = false; table = false; blocks = None }

-- A label of the block's own, with the name v, whose text runs from a to b in the file s.
unfoldable pub noted : List ℕ → List ℕ → ℕ → ℕ → Level → Level
noted s v a b l =
    record {
      title = l.title;
      eq = l.eq;
      names = l.names ++ v ∷ [];
      link = pick (says s v a b) true l.link;
      table = pick (sames v XYDATA) true l.table;
      blocks = pick (sames v BLOCKS) (Some (span_of a b)) l.blocks;
    }

-- What the walk over a file's labels finds: the first fault, its number and place; or what the outermost block has said up to its END, that block, and the data blocks in file order.
pub data Survey : Type 0 where
  refused : ℕ → ℕ → Survey
  ended : Level → Block → List Block → Survey

-- A data block before all that are still to come.
unfoldable pub push : Block → Survey → Survey
push b (refused c a) = refused c a
push b (ended l o bs) = ended l o (b ∷ bs)

-- The block l, whose END's `##` stands at x, its `=` at q.
abbrev pub block_of : Level → ℕ → ℕ → Block
block_of l x q = record { title = l.title; eq = l.eq; end = x; last = q }

-- At END: a LINK block is no data block. K: the rest of the file, in the block around it; none is around the outermost.
unfoldable pub closed : (Level → List Level → Survey) → Level → ℕ → ℕ → List Level → Survey
closed K l x q [] = ended l (block_of l x q) (pick l.link [] (block_of l x q ∷ []))
closed K l x q (o ∷ up) = pick l.link (K o up) (push (block_of l x q) (K o up))

-- "33 (table in a LINK block, at the later of its XYDATA and DATA TYPE labels) comes in the walk after 23"
unfoldable pub tested : (Level → List Level → Survey) → ℕ → Level → List Level → Survey
tested K x l up = pick (both l.link l.table) (refused 33 x) (K l up)

-- A label in the block l, which stands in the blocks up: END; TITLE, "24 means a TITLE at depth nine, or in a block that has not yet said it is LINK";
-- 23, "Labels are compared within their own block only"; 33. Its text runs to b.
unfoldable pub turn : List ℕ → (Level → List Level → Survey) → ℕ → ℕ → List ℕ → ℕ → Level → List Level → Survey
turn s K x e v b l up =
    pick (sames v END) (closed K l x e up)
    (pick (sames v TITLE) (pick (both l.link (ltb (suc (length up)) deepest)) (K (fresh x e) (l ∷ up)) (refused 24 x))
    (pick (twice v l.names) (refused 23 x) (tested K x (noted s v (e + 1) b l) up)))

-- The walk in the block l, which stands in the blocks up, the innermost first: 22 no END, 20 a bad label.
unfoldable pub nested : List ℕ → Walk → Level → List Level → Survey
nested s over l up = refused 22 (length s)
nested s (bad x rest) l up = refused 20 x
nested s (label x n e v rest) l up = turn s (nested s rest) x e v (mark_of (length s) rest) l up

-- "Order: 19; 21; then 20, 22, 23, 24 in one walk".
unfoldable pub within_title : List ℕ → Result Edges Fault → Survey
within_title s (Ok x) = nested s (from s (x.eq + 1) false) (fresh x.mark x.eq) []
within_title s (Err r) = refused r.number r.place

unfoldable pub surveyed : List ℕ → Survey
surveyed s = pick (leb (length s) longest_file) (within_title s (opened s)) (refused 19 0)
