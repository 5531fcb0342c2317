-- "Each inner block may hold blocks of its own" (01, "Code places and their forms"): what the walk over one block promises, in whatever blocks it stands, and its turns.
-- The code is a function that loops over the labels of a block, and calls itself at an inner TITLE with one depth less left.
use Rattle.std.specs.Prelude.{◌≡◌, Bool, length, Ok}
use Rattle.std.proofs.Math.Path.{refl, ap, sym}
use Rattle.std.proofs.Common.{◌∙◌}
use Rattle.std.proofs.Math.Bool.{true, false}
use mathlib.Core.List.{List, [], ◌∷◌, ◌++◌, append-nil}
use Prim.Native.Nat.{ℕ, zero, suc, ◌+◌}
use native.Mathlib.Omega.{arith}
use Rattle.std.proofs.Math.Dec.{ltb}
use borrow.Author.Tests.{lt-ltb, le-ltb}
use Rattle.terms.specs.Logic.{pick, both}
use Rattle.label_spec.specs.Names.{sames, TITLE, END}
use Rattle.label_spec.specs.Labels.{Walk, over, bad, label, from}
use Rattle.label_spec.specs.File.{twice}
use Rattle.label_spec.specs.Records.{mark_of}
use Rattle.compound_spec.specs.declared.Block.{Block}
use Rattle.compound_spec.specs.Blocks.{Level, fresh, noted, deepest, Survey, refused, push, block_of, closed, tested, turn, nested, within_title}
use Rattle.label_spec.specs.Parts.{edges_with}

-- What the walk over a block answers: the first fault; or the block as it is at its END, END's `##` and `=`, and the data blocks within it.
pub data Closing : Type 0 where
  fault : ℕ → ℕ → Closing
  closes : Level → ℕ → ℕ → List Block → Closing

-- Data blocks before all that are still to come.
unfoldable pub prepend : List Block → Survey → Survey
prepend [] r = r
prepend (b ∷ bs) r = push b (prepend bs r)

-- What the answer makes of the rest of the file, in the blocks up.
unfoldable pub resume : List ℕ → Closing → List Level → Survey
resume s (fault c a) up = refused c a
resume s (closes l x q bs) up = prepend bs (closed (nested s (from s (q + 1) false)) l x q up)

-- The contract of the walk over the block whose TITLE stands at m, its `=` at e, with so many depths left below it.
pub record Walks (s : List ℕ) (m e left : ℕ) (r : Closing) : Type 0 where
  pub law : (up : List Level) → suc (length up) + left ≡ deepest → nested s (from s (e + 1) false) (fresh m e) up ≡ resume s r up

-- Its loop's invariant: the labels before i made the block l, and gave the data blocks bs.
pub record Sofar (s : List ℕ) (m e left i : ℕ) (l : Level) (bs : List Block) : Type 0 where
  pub law : (up : List Level) → suc (length up) + left ≡ deepest → nested s (from s (e + 1) false) (fresh m e) up ≡ prepend bs (nested s (from s i false) l up)

pub prepend_refused : (bs : List Block) (c a : ℕ) → prepend bs (refused c a) ≡ refused c a
unfolding prepend push
prepend_refused [] c a = refl
prepend_refused (b ∷ bs) c a = rw (prepend_refused bs c a) refl

pub prepend_append : (bs cs : List Block) (r : Survey) → prepend (bs ++ cs) r ≡ prepend bs (prepend cs r)
unfolding prepend
prepend_append [] cs r = refl
prepend_append (b ∷ bs) cs r = ap (push b) (prepend_append bs cs r)

-- The data blocks of an inner block, itself among them if it is not LINK.
abbrev pub gained : Level → ℕ → ℕ → List Block → List Block
gained l x q cs = cs ++ pick l.link [] (block_of l x q ∷ [])

pub begin : (s : List ℕ) (m e left : ℕ) → Sofar s m e left (e + 1) (fresh m e) []
unfolding prepend
begin s m e left = record { law = λ up h. refl }

depth : (n left : ℕ) → suc n + left ≡ deepest → ltb (suc n) deepest ≡ ltb 0 left
depth n zero h = le-ltb (suc n) deepest (omega arith)
depth n (suc k) h = lt-ltb (suc n) deepest (omega arith) ∙ sym (lt-ltb 0 (suc k) (omega arith))

module _ (s : List ℕ) (m e left i : ℕ) (l : Level) (bs : List Block) (inv : Sofar s m e left i l bs) where
  -- 22 and 20
  pub at_over : from s i false ≡ over → Walks s m e left (fault 22 (length s))
  unfolding nested resume
  at_over f = record { law = λ up h. inv.law up h ∙ rw f (prepend_refused bs 22 (length s)) }

  pub at_bad : (x : ℕ) (rest : Walk) → from s i false ≡ bad x rest → Walks s m e left (fault 20 x)
  unfolding nested resume
  at_bad x rest f = record { law = λ up h. inv.law up h ∙ rw f (prepend_refused bs 20 x) }

  module _ (x n q : ℕ) (v : List ℕ) (f : from s i false ≡ label x n q v (from s (q + 1) false)) where
    here : (up : List Level) → suc (length up) + left ≡ deepest
        → nested s (from s (e + 1) false) (fresh m e) up ≡ prepend bs (turn s (nested s (from s (q + 1) false)) x q v (mark_of (length s) (from s (q + 1) false)) l up)
    unfolding nested
    here up h = inv.law up h ∙ rw f refl

    -- END
    pub at_end : sames v END ≡ true → Walks s m e left (closes l x q bs)
    unfolding resume turn
    at_end g = record { law = λ up h. here up h ∙ rw g refl }

    module _ (g : sames v END ≡ false) where
      -- 24
      pub at_title : sames v TITLE ≡ true → both l.link (ltb 0 left) ≡ false → Walks s m e left (fault 24 x)
      unfolding resume turn
      at_title t o = record { law = λ up h. here up h ∙ rw (g, t, depth (length up) left h, o) (prepend_refused bs 24 x) }

      -- An inner block, with one depth less left.
      module _ (t : sames v TITLE ≡ true) (o : l.link ≡ true) (k : ℕ) (d : left ≡ suc k) where
        entered : (r : Closing) → Walks s x q k r → (up : List Level) → suc (length up) + left ≡ deepest
            → nested s (from s (e + 1) false) (fresh m e) up ≡ prepend bs (resume s r (l ∷ up))
        unfolding turn
        entered r w up h =
            let z : suc (suc (length up)) + k ≡ deepest = omega arith in
            let y : ltb (suc (length up)) deepest ≡ true = lt-ltb (suc (length up)) deepest (omega arith) in
            let b : both l.link (ltb (suc (length up)) deepest) ≡ true = rw (o, y) refl in
            here up h ∙ rw (g, t, b) (ap (prepend bs) (w.law (l ∷ up) z))

        pub at_fault : (c a : ℕ) → Walks s x q k (fault c a) → Walks s m e left (fault c a)
        unfolding resume
        at_fault c a w = record { law = λ up h. entered (fault c a) w up h ∙ prepend_refused bs c a }

        pub at_inner : (j : Level) (y p : ℕ) (cs : List Block) → Walks s x q k (closes j y p cs) → Sofar s m e left (p + 1) l (bs ++ gained j y p cs)
        unfolding resume closed
        at_inner j y p cs w = record { law = λ up h. entered (closes j y p cs) w up h ∙ sym (prepend_append bs (gained j y p cs) _ ∙ ap (prepend bs) (joined j.link up)) }
          where
            joined : (b : Bool) (up : List Level)
                → prepend (cs ++ pick b [] (block_of j y p ∷ [])) (nested s (from s (p + 1) false) l up)
                ≡ prepend cs (pick b (nested s (from s (p + 1) false) l up) (push (block_of j y p) (nested s (from s (p + 1) false) l up)))
            joined true up = rw (append-nil cs) refl
            joined false up = prepend_append cs (block_of j y p ∷ []) (nested s (from s (p + 1) false) l up) ∙ ap (prepend cs) (unfold prepend in refl)

      module _ (t : sames v TITLE ≡ false) where
        -- 23
        pub at_twice : twice v l.names ≡ true → Walks s m e left (fault 23 x)
        unfolding resume turn
        at_twice o = record { law = λ up h. here up h ∙ rw (g, t, o) (prepend_refused bs 23 x) }

        -- 33, or a label of the block's own.
        module _ (o : twice v l.names ≡ false) where
          pub at_table : both (noted s v (q + 1) (mark_of (length s) (from s (q + 1) false)) l).link
              (noted s v (q + 1) (mark_of (length s) (from s (q + 1) false)) l).table ≡ true → Walks s m e left (fault 33 x)
          unfolding resume turn tested
          at_table z = record { law = λ up h. here up h ∙ rw (g, t, o, z) (prepend_refused bs 33 x) }

          pub at_own : both (noted s v (q + 1) (mark_of (length s) (from s (q + 1) false)) l).link (noted s v (q + 1) (mark_of (length s) (from s (q + 1) false)) l).table ≡ false
              → Sofar s m e left (q + 1) (noted s v (q + 1) (mark_of (length s) (from s (q + 1) false)) l) bs
          unfolding turn tested
          at_own z = record { law = λ up h. here up h ∙ rw (g, t, o, z) refl }

-- The outermost block.
pub outermost : (s : List ℕ) (m e : ℕ) (r : Closing) → Walks s m e 7 r → within_title s (Ok (edges_with m e)) ≡ resume s r []
unfolding within_title
outermost s m e r w = w.law [] refl
