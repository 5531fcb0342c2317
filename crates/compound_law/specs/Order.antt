-- 02, T-07: "every data block found in file order": each begins after the one before it has ended.
use Rattle.std.specs.Prelude.{◌≡◌, Bool, ℕ, suc, ◌+◌, ◌<◌, ◌≤◌, leb, ltb, length, Result, Ok, Err}
use Rattle.std.proofs.Math.Path.{refl}
use Rattle.std.proofs.Common.{sym, ◌∙◌}
use Rattle.std.proofs.Math.Bool.{true, false}
use mathlib.Core.List.{List, [], ◌∷◌}
use native.Mathlib.Omega.{arith}
use Rattle.terms.specs.Logic.{pick, both, no_way}
use Rattle.label_spec.specs.Names.{sames, TITLE, END}
use Rattle.label_spec.specs.Labels.{Walk, over, bad, label, from}
use Rattle.label_spec.specs.File.{longest_file, twice, opened}
use Rattle.label_spec.specs.Records.{mark_of}
use Rattle.compound_spec.specs.declared.Block.{Block}
use Rattle.compound_spec.specs.Blocks.{says, Level, fresh, noted, deepest, Survey, refused, ended, push, block_of, closed, tested, turn, nested, within_title, surveyed}
use Rattle.compound_law.specs.Standing.{Sound, sound}
use Rattle.compound_law.specs.Above.{Above, from_above}
use Rattle.compound_law.specs.Plain.{AllLink}
use Rattle.compound_law.specs.Found.{by_pick, neither, opened_since}
use Rattle.label_spec.specs.declared.Edges.{Edges}
use Rattle.terms.specs.declared.Fault.{Fault}

-- From the place lo on, one after the other.
abbrev pub Rising : ℕ → List Block → Type 0
Rising lo [] = Unit
Rising lo (b ∷ bs) = (lo ≤ b.title) × (b.title < b.last) × Rising b.last bs

abbrev Ordered : ℕ → Survey → Type 0
Ordered lo (refused c a) = Unit
Ordered lo (ended l o bs) = Rising lo bs

push_ordered : (lo : ℕ) (b : Block) (r : Survey) → lo ≤ b.title → b.title < b.last → Ordered b.last r → Ordered lo (push b r)
unfolding push
push_ordered lo b (refused c a) h g o = tt
push_ordered lo b (ended l w bs) h g o = (h, g, o)

-- A block that is not LINK stands from lo on, and its TITLE before i.
abbrev Stands : ℕ → ℕ → Level → Type 0
Stands lo i l = l.link ≡ false → (lo ≤ l.title) × (l.title < i)

module _ (s : List ℕ) (x n e : ℕ) (v : List ℕ) (rest : Walk) (l : Level) (up : List Level) (lo i : ℕ) (h : lo ≤ i) (g : i ≤ x) (f : x < e)
    (c : Stands lo i l) (a : AllLink up)
    (ih : (lo' : ℕ) (o : Level) (ups : List Level) → lo' ≤ e + 1 → Stands lo' (e + 1) o → AllLink ups → Ordered lo' (nested s rest o ups)) where
  closed_ordered : (ups : List Level) → AllLink ups → Ordered lo (closed (nested s rest) l x e ups)
  unfolding closed
  closed_ordered [] b = cases l.link refl
    where
      cases : (t : Bool) → l.link ≡ t → Rising lo (pick t [] (block_of l x e ∷ []))
      cases true q = tt
      cases false q = let z = c q in (z.0, omega arith, tt)
  closed_ordered (o ∷ ups) b =
      by_pick (Ordered lo) l.link _ _ (λ q. ih lo o ups (omega arith) (λ k. no_way (sym k ∙ b.0)) b.1)
      (λ q. let z = c q in push_ordered lo (block_of l x e) (nested s rest o ups) z.0 (omega arith) (ih e o ups (omega arith) (λ k. no_way (sym k ∙ b.0)) b.1))

  inner_ordered : (t : Bool) → l.link ≡ t → (u : Bool) → Ordered lo (pick (both t u) (nested s rest (fresh x e) (l ∷ up)) (refused 24 x))
  inner_ordered true q true = ih lo (fresh x e) (l ∷ up) (omega arith) (λ k. (omega arith, omega arith)) (q, a)
  inner_ordered true q false = tt
  inner_ordered false q u = tt

  noted_stands : (b : ℕ) → Stands lo (e + 1) (noted s v (e + 1) b l)
  unfolding noted
  noted_stands b q = let k = neither (says s v (e + 1) b) l.link q in let z = c k.1 in (z.0, omega arith)

  turn_ordered : (b : ℕ) → Ordered lo (turn s (nested s rest) x e v b l up)
  unfolding turn tested
  turn_ordered b =
      by_pick (Ordered lo) (sames v END) _ _ (λ q. closed_ordered up a)
      (λ q. by_pick (Ordered lo) (sames v TITLE) _ _ (λ q. inner_ordered l.link refl (ltb (suc (length up)) deepest))
      (λ q. by_pick (Ordered lo) (twice v l.names) _ _ (λ q. tt)
      (λ q. by_pick (Ordered lo) (both (noted s v (e + 1) b l).link (noted s v (e + 1) b l).table) _ _ (λ q. tt) (λ q. ih lo (noted s v (e + 1) b l) up (omega arith) (noted_stands b) a))))

nested_ordered : (s : List ℕ) (k : Walk) (l : Level) (up : List Level) (lo i : ℕ) → Sound s k → Above i k → lo ≤ i → Stands lo i l → AllLink up → Ordered lo (nested s k l up)
unfolding nested
nested_ordered s over l up lo i d b h c a = tt
nested_ordered s (bad x rest) l up lo i d b h c a = tt
nested_ordered s (label x n e v rest) l up lo i d b h c a =
    turn_ordered s x n e v rest l up lo i h b.0 (omega (arith, d.0.low)) c a
    (λ lo' o ups g w z. nested_ordered s rest o ups lo' (e + 1) d.1 (rw d.0.on (from_above s (e + 1) false)) g w z) (mark_of (length s) rest)

within_ordered : (s : List ℕ) (o : Result Edges Fault) → opened s ≡ o → Ordered 0 (within_title s o)
unfolding within_title
within_ordered s (Ok x) h =
    let c = opened_since s x.mark x.eq h in
    let d = rw c.at at (sound s x.mark true) in
    nested_ordered s (from s (x.eq + 1) false) (fresh x.mark x.eq) [] 0 (x.eq + 1) (sound s (x.eq + 1) false) (from_above s (x.eq + 1) false) (omega arith) (λ k. (omega arith, omega (arith, d.0.low))) tt
within_ordered s (Err r) h = tt

survey_ordered : (s : List ℕ) → Ordered 0 (surveyed s)
unfolding surveyed
survey_ordered s = by_pick (Ordered 0) (leb (length s) longest_file) _ _ (λ h. within_ordered s (opened s) refl) (λ h. tt)

-- The theorem.
pub in_order : (s : List ℕ) (l : Level) (o : Block) (bs : List Block) → surveyed s ≡ ended l o bs → Rising 0 bs
in_order s l o bs h = rw h at (survey_ordered s)
