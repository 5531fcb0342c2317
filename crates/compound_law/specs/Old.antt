-- 02, T-07: "A file that is one data block keeps its old answers".
use Rattle.std.specs.Prelude.{◌≡◌, Bool, List, [], ◌∷◌, ◌++◌, ℕ, ◌+◌, leb, ltb, length, Result, Ok, Err}
use Rattle.std.proofs.Math.Path.{refl}
use Rattle.std.proofs.Math.Bool.{true, false}
use Rattle.std.proofs.Common.{inl, inr}
use Rattle.terms.specs.Logic.{pick, both}
use Rattle.terms.specs.Refusals.{fault_at}
use Rattle.label_spec.specs.Names.{sames, TITLE, END}
use Rattle.label_spec.specs.Labels.{Walk, over, bad, label, from}
use Rattle.label_spec.specs.File.{longest_file, twice, judged, opened, placed, after_title, labelled}
use Rattle.label_spec.specs.Records.{mark_of}
use Rattle.file_spec.specs.File.{labels_by, by_labels, read_file_by, read_file}
use Rattle.compound_spec.specs.Blocks.{says, Level, fresh, noted, deepest, Survey, refused, closed, tested, turn, nested, within_title, surveyed}
use Rattle.compound_spec.specs.Compound.{CompoundAnswer, whole, in_place, answers_of, by_survey, find_blocks, read_compound}
use Rattle.compound_law.specs.Plain.{Plain}
use Rattle.compound_law.specs.Found.{neither}
use Rattle.label_spec.specs.declared.Edges.{Edges}
use Rattle.terms.specs.declared.Fault.{Fault}
use Rattle.label_spec.specs.Parts.{edges_with, places_with}

-- Does a label before END say that the outermost block is LINK?
unfoldable pub link_said : List ℕ → Walk → Bool
link_said s over = false
link_said s (bad x rest) = false
link_said s (label x n e v rest) = pick (sames v END) false (pick (says s v (e + 1) (mark_of (length s) rest)) true (link_said s rest))

unfoldable pub link_after : List ℕ → Result Edges Fault → Bool
link_after s (Ok x) = link_said s (from s (x.eq + 1) false)
link_after s (Err r) = false

-- Is the file a compound one?
unfoldable pub is_compound : List ℕ → Bool
is_compound s = link_after s (opened s)

-- What a survey answers in the end.
abbrev answered : List ℕ → ℕ → Survey → CompoundAnswer
answered s space r = answers_of s space (by_survey s r)

-- The walk of a block that never says LINK is that of the simple reader.
module _ (s : List ℕ) (space m : ℕ) where
  abbrev Same : Walk → Level → Type 0
  Same k l = answered s space (nested s k l []) ≡ whole (by_labels s space (placed m l.eq (judged (length s) l.names k)))

  at_end : (K : Level → List Level → Survey) (l : Level) (x e : ℕ) → l.link ≡ false
      → answered s space (closed K l x e []) ≡ whole (by_labels s space (Ok (places_with m l.eq x)))
  unfolding closed by_survey labels_by in_place
  at_end K l x e h = rw h refl

  module _ (x n e : ℕ) (v : List ℕ) (rest : Walk) (l : Level) (c : l.link ≡ false) (ih : (o : Level) → o.link ≡ false → link_said s rest ≡ false → Same rest o) where
    at_own : says s v (e + 1) (mark_of (length s) rest) ≡ false → link_said s rest ≡ false
        → answered s space (tested (nested s rest) x (noted s v (e + 1) (mark_of (length s) rest) l) [])
        ≡ whole (by_labels s space (placed m l.eq (judged (length s) (l.names ++ v ∷ []) rest)))
    unfolding tested noted
    at_own h g = rw (h, c) (rw (h, c) at (ih (noted s v (e + 1) (mark_of (length s) rest) l) (rw (h, c) refl) g))

    at_rest : (t : Bool) → sames v TITLE ≡ t → (u : Bool) → twice v l.names ≡ u → says s v (e + 1) (mark_of (length s) rest) ≡ false → link_said s rest ≡ false
        → answered s space (pick t (pick (both l.link (ltb 1 deepest)) (nested s rest (fresh x e) (l ∷ [])) (refused 24 x))
        (pick u (refused 23 x) (tested (nested s rest) x (noted s v (e + 1) (mark_of (length s) rest) l) [])))
        ≡ whole (by_labels s space (placed m l.eq (pick t (Err (fault_at 24 x)) (pick u (Err (fault_at 23 x)) (judged (length s) (l.names ++ v ∷ []) rest)))))
    unfolding by_survey labels_by placed
    at_rest true p u q h g = rw c refl
    at_rest false p true q h g = refl
    at_rest false p false q h g = at_own h g

    at_label : (t : Bool) → sames v END ≡ t → pick t false (pick (says s v (e + 1) (mark_of (length s) rest)) true (link_said s rest)) ≡ false
        → answered s space (pick t (closed (nested s rest) l x e [])
        (pick (sames v TITLE) (pick (both l.link (ltb 1 deepest)) (nested s rest (fresh x e) (l ∷ [])) (refused 24 x))
        (pick (twice v l.names) (refused 23 x) (tested (nested s rest) x (noted s v (e + 1) (mark_of (length s) rest) l) []))))
        ≡ whole (by_labels s space (placed m l.eq (pick t (Ok (edges_with x e))
        (pick (sames v TITLE) (Err (fault_at 24 x)) (pick (twice v l.names) (Err (fault_at 23 x)) (judged (length s) (l.names ++ v ∷ []) rest))))))
    unfolding placed
    at_label true p h = at_end (nested s rest) l x e c
    at_label false p h =
        let b = neither (says s v (e + 1) (mark_of (length s) rest)) (link_said s rest) h in
        at_rest (sames v TITLE) refl (twice v l.names) refl b.0 b.1

  same : (k : Walk) (l : Level) → l.link ≡ false → link_said s k ≡ false → Same k l
  unfolding nested turn judged link_said by_survey labels_by placed
  same over l c h = refl
  same (bad x rest) l c h = refl
  same (label x n e v rest) l c h = at_label x n e v rest l c (same rest) (sames v END) refl h

old_title : (s : List ℕ) (space : ℕ) (o : Result Edges Fault) → link_after s o ≡ false → answered s space (within_title s o) ≡ whole (by_labels s space (after_title s o))
unfolding link_after within_title after_title by_survey labels_by
old_title s space (Ok x) h = same s space x.mark (from s (x.eq + 1) false) (fresh x.mark x.eq) refl h
old_title s space (Err r) h = refl

-- A file whose outermost block does not say LINK is answered as the simple reader answers it, refusals too.
pub old_answers : (s : List ℕ) (space : ℕ) → is_compound s ≡ false → read_compound s space ≡ whole (read_file s space)
unfolding is_compound read_compound find_blocks read_file_by surveyed labelled by_survey labels_by
old_answers s space h = cases (leb (length s) longest_file)
  where
    cases : (t : Bool) → answered s space (pick t (within_title s (opened s)) (refused 19 0)) ≡ whole (by_labels s space (pick t (after_title s (opened s)) (Err (fault_at 19 0))))
    cases true = old_title s space (opened s) h
    cases false = refl

-- The labels of a data block do not say LINK.
pub plain_silent : (s : List ℕ) (done : List (List ℕ)) (k : Walk) (x q : ℕ) → Plain s done k x q → link_said s k ≡ false
unfolding link_said
plain_silent s done over x q p = absurd p
plain_silent s done (bad y rest) x q p = absurd p
plain_silent s done (label y n e v rest) x q (inl p) = rw p.is_end refl
plain_silent s done (label y n e v rest) x q (inr p) = rw (p.0.no_end, p.0.no_link) (plain_silent s (done ++ v ∷ []) rest x q p.1)
