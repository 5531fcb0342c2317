-- The data blocks of a file that is not refused, found in one pass with no stack: a block that holds blocks has said LINK, so at END only the block that the last TITLE opened can be a data block.
use Rattle.std.specs.Prelude.{◌≡◌, Bool, ℕ, zero, suc, ◌+◌, ◌≤◌, ltb, length, take, Ok}
use Rattle.std.proofs.Math.Path.{refl}
use Rattle.std.proofs.Common.{ap, subst, arith}
use Rattle.std.proofs.Math.Bool.{true, false}
use mathlib.Core.List.{List, [], ◌∷◌}
use Rattle.terms.specs.Logic.{pick, both}
use Rattle.label_spec.specs.Names.{sames, TITLE, END}
use Rattle.label_spec.specs.Labels.{Walk, over, bad, label, from}
use Rattle.label_spec.specs.File.{twice}
use Rattle.label_spec.specs.Records.{mark_of}
use Rattle.compound_spec.specs.declared.Block.{Block}
use Rattle.compound_spec.specs.Blocks.{says, Level, fresh, noted, deepest, Survey, refused, ended, push, block_of, closed, tested, turn, nested, within_title}
use Rattle.compound_law.specs.Plain.{AllLink}
use Rattle.compound_law.specs.Flat.{Last, plain, none, passed, flat}
use Rattle.label_spec.specs.Parts.{edges_with}

-- The state of the pass, where the innermost open block is l.
abbrev last_of : Level → Last
last_of l = pick l.link none (plain l.title l.eq)

-- From a walk that ends without a fault the pass takes the same blocks, as many as are asked for.
abbrev Alike : List ℕ → Walk → Last → Survey → Type 0
Alike s k t (refused c a) = Unit
Alike s k t (ended o b bs) = (n : ℕ) → n ≤ length bs → flat s k n t ≡ take n bs

by_pick : (P : Survey → Type 0) (t : Bool) (a b : Survey) → (t ≡ true → P a) → (t ≡ false → P b) → P (pick t a b)
by_pick P true a b f g = f refl
by_pick P false a b f g = g refl

pub zeroth : (s : List ℕ) (k : Walk) (t : Last) → flat s k 0 t ≡ []
unfolding flat passed
zeroth s over t = refl
zeroth s (bad x rest) t = refl
zeroth s (label x y q v rest) t = refl

-- A label that is no END of a data block.
onward : (s : List ℕ) (k : Walk) (t : Last) (rest : Walk) (u : Last) (r : Survey) → ((n : ℕ) → flat s k (suc n) t ≡ flat s rest (suc n) u) → Alike s rest u r → Alike s k t r
onward s k t rest u (refused c a) f g = tt
onward s k t rest u (ended p b bs) f g = cases
  where
    cases : (n : ℕ) → n ≤ length bs → flat s k n t ≡ take n bs
    cases zero h = zeroth s k t
    cases (suc n) h = rw (f n) (g (suc n) h)

-- A data block, and the rest after it.
pushed : (s : List ℕ) (k : Walk) (t : Last) (rest : Walk) (c : Block) (r : Survey) → ((n : ℕ) → flat s k (suc n) t ≡ c ∷ flat s rest n none) → Alike s rest none r → Alike s k t (push c r)
unfolding push
pushed s k t rest c (refused d a) f g = tt
pushed s k t rest c (ended p b bs) f g = cases
  where
    cases : (n : ℕ) → n ≤ length (c ∷ bs) → flat s k n t ≡ take n (c ∷ bs)
    cases zero h = zeroth s k t
    cases (suc n) h = rw (f n, g n (omega arith)) refl

around : (o : Level) → o.link ≡ true → last_of o ≡ none
around o h = rw h refl

module _ (s : List ℕ) (x y q : ℕ) (v : List ℕ) (rest : Walk) (l : Level) where
  abbrev here : Walk
  here = label x y q v rest

  module _ (g : sames v END ≡ true) where
    end_link : (n : ℕ) → flat s here (suc n) none ≡ flat s rest (suc n) none
    unfolding flat passed
    end_link n = rw g refl

    end_data : (n : ℕ) → flat s here (suc n) (plain l.title l.eq) ≡ block_of l x q ∷ flat s rest n none
    unfolding flat passed
    end_data n = rw g refl

    -- the outermost block's END
    outer_end : (t : Bool) → Alike s here (pick t none (plain l.title l.eq)) (ended l (block_of l x q) (pick t [] (block_of l x q ∷ [])))
    outer_end true zero h = zeroth s here none
    outer_end true (suc n) h = absurd (omega arith)
    outer_end false zero h = zeroth s here (plain l.title l.eq)
    outer_end false (suc zero) h = rw (end_data 0, zeroth s rest none) refl
    outer_end false (suc (suc n)) h = absurd (omega arith)

    inner_end : (t : Bool) (r : Survey) → Alike s rest none r → Alike s here (pick t none (plain l.title l.eq)) (pick t r (push (block_of l x q) r))
    inner_end true r a = onward s here none rest none r end_link a
    inner_end false r a = pushed s here (plain l.title l.eq) rest (block_of l x q) r end_data a

    closed_alike : (K : Level → List Level → Survey) (up : List Level) → AllLink up
        → ((o : Level) (ups : List Level) → AllLink ups → Alike s rest (last_of o) (K o ups)) → Alike s here (last_of l) (closed K l x q up)
    unfolding closed
    closed_alike K [] a ih = outer_end l.link
    closed_alike K (o ∷ up) a ih = let z = around o a.0 in inner_end l.link (K o up) (subst (λ (t : Last). Alike s rest t (K o up)) z (ih o up a.1))

  module _ (g : sames v END ≡ false) where
    inner : sames v TITLE ≡ true → (n : ℕ) → flat s here (suc n) (last_of l) ≡ flat s rest (suc n) (plain x q)
    unfolding flat passed
    inner h n = rw (g, h) refl

    own : sames v TITLE ≡ false → (n : ℕ) → flat s here (suc n) (last_of l) ≡ flat s rest (suc n) (last_of (noted s v (q + 1) (mark_of (length s) rest) l))
    unfolding flat passed noted
    own h n = rw (g, h) (ap (flat s rest (suc n)) (states (says s v (q + 1) (mark_of (length s) rest)) l.link))
      where
        states : (t u : Bool) → pick t none (pick u none (plain l.title l.eq)) ≡ pick (pick t true u) none (plain l.title l.eq)
        states true u = refl
        states false u = refl

  turn_alike : (up : List Level) → AllLink up → ((o : Level) (ups : List Level) → AllLink ups → Alike s rest (last_of o) (nested s rest o ups))
      → Alike s here (last_of l) (turn s (nested s rest) x q v (mark_of (length s) rest) l up)
  unfolding turn tested
  turn_alike up a ih =
      let o = noted s v (q + 1) (mark_of (length s) rest) l in
      by_pick (Alike s here (last_of l)) (sames v END) _ _ (λ g. closed_alike g (nested s rest) up a ih)
      (λ g. by_pick (Alike s here (last_of l)) (sames v TITLE) _ _
      (λ h. entered g h l.link refl (ltb (suc (length up)) deepest))
      (λ h. by_pick (Alike s here (last_of l)) (twice v l.names) _ _ (λ f. tt)
      (λ f. by_pick (Alike s here (last_of l)) (both o.link o.table) _ _ (λ k. tt)
      (λ k. onward s here (last_of l) rest (last_of o) (nested s rest o up) (own g h) (ih o up a)))))
    where
      entered : sames v END ≡ false → sames v TITLE ≡ true → (t : Bool) → l.link ≡ t → (u : Bool) → Alike s here (last_of l) (pick (both t u) (nested s rest (fresh x q) (l ∷ up)) (refused 24 x))
      entered g h true k true = onward s here (last_of l) rest (plain x q) (nested s rest (fresh x q) (l ∷ up)) (inner g h) (ih (fresh x q) (l ∷ up) (k, a))
      entered g h true k false = tt
      entered g h false k u = tt

nested_alike : (s : List ℕ) (k : Walk) (l : Level) (up : List Level) → AllLink up → Alike s k (last_of l) (nested s k l up)
unfolding nested
nested_alike s over l up a = tt
nested_alike s (bad x rest) l up a = tt
nested_alike s (label x y q v rest) l up a = turn_alike s x y q v rest l up a (λ o ups b. nested_alike s rest o ups b)

-- The theorem: m and e are the places of the outermost TITLE's `##` and `=`.
pub flat_is : (s : List ℕ) (m e : ℕ) (l : Level) (o : Block) (bs : List Block) → within_title s (Ok (edges_with m e)) ≡ ended l o bs
    → (n : ℕ) → n ≤ length bs → flat s (from s (e + 1) false) n (plain m e) ≡ take n bs
unfolding within_title
flat_is s m e l o bs h = rw h at (nested_alike s (from s (e + 1) false) (fresh m e) [] tt)
