-- 02, T-07: a file that the survey finds to be one data block is answered as the simple reader answers it.
use Rattle.std.specs.Prelude.{◌≡◌, refl, Bool, true, false, List, [], ◌∷◌, ℕ, suc, ◌+◌, ◌<◌, ◌≤◌, leb, ltb, length, Result, Ok, Err}
use Rattle.std.proofs.Common.{arith, leb-true}
use Rattle.terms.specs.Logic.{pick, both}
use Rattle.label_spec.specs.Names.{sames, TITLE, END}
use Rattle.label_spec.specs.Labels.{Walk, over, bad, label, from}
use Rattle.label_spec.specs.File.{longest_file, twice, opened}
use Rattle.label_spec.specs.Records.{mark_of}
use Rattle.file_spec.specs.File.{read_file}
use Rattle.compound_spec.specs.declared.Block.{Block}
use Rattle.compound_spec.specs.Blocks.{Level, fresh, noted, deepest, Survey, refused, ended, push, block_of, closed, tested, turn, nested, within_title, surveyed}
use Rattle.compound_spec.specs.Compound.{whole, read_compound}
use Rattle.compound_law.specs.Plain.{DataBlock, Promised, AllData}
use Rattle.compound_law.specs.Found.{by_pick, opened_since, found}
use Rattle.compound_law.specs.Old.{link_said, link_after, is_compound, old_answers, plain_silent}
use Rattle.label_spec.specs.declared.Edges.{Edges}
use Rattle.terms.specs.declared.Fault.{Fault}

-- The outermost of the blocks that are open: its TITLE's `=` stands at e.
abbrev outermost : ℕ → Level → List Level → Type 0
outermost e l [] = l.eq ≡ e
outermost e l (o ∷ up) = outermost e o up

abbrev Kept : ℕ → Survey → Type 0
Kept e (refused c a) = Unit
Kept e (ended l o bs) = o.eq ≡ e

push_kept : (e : ℕ) (b : Block) (r : Survey) → Kept e r → Kept e (push b r)
unfolding push
push_kept e b (refused c a) h = tt
push_kept e b (ended l o bs) h = h

noted_outermost : (e : ℕ) (s v : List ℕ) (a b : ℕ) (l : Level) (up : List Level) → outermost e l up → outermost e (noted s v a b l) up
unfolding noted
noted_outermost e s v a b l [] h = h
noted_outermost e s v a b l (o ∷ up) h = h

closed_kept : (m : ℕ) (K : Level → List Level → Survey) (l : Level) (x q : ℕ) (up : List Level)
    → ((o : Level) (ups : List Level) → outermost m o ups → Kept m (K o ups)) → outermost m l up → Kept m (closed K l x q up)
unfolding closed
closed_kept m K l x q [] k h = h
closed_kept m K l x q (o ∷ up) k h = by_pick (Kept m) l.link _ _ (λ f. k o up h) (λ f. push_kept m (block_of l x q) (K o up) (k o up h))

turn_kept : (m : ℕ) (s : List ℕ) (K : Level → List Level → Survey) (x e : ℕ) (v : List ℕ) (b : ℕ) (l : Level) (up : List Level)
    → ((o : Level) (ups : List Level) → outermost m o ups → Kept m (K o ups)) → outermost m l up → Kept m (turn s K x e v b l up)
unfolding turn tested
turn_kept m s K x e v b l up k h =
    by_pick (Kept m) (sames v END) _ _ (λ f. closed_kept m K l x e up k h)
    (λ f. by_pick (Kept m) (sames v TITLE) _ _ (λ f. by_pick (Kept m) (both l.link (ltb (suc (length up)) deepest)) _ _ (λ f. k (fresh x e) (l ∷ up) h) (λ f. tt))
    (λ f. by_pick (Kept m) (twice v l.names) _ _ (λ f. tt)
    (λ f. by_pick (Kept m) (both (noted s v (e + 1) b l).link (noted s v (e + 1) b l).table) _ _ (λ f. tt) (λ f. k (noted s v (e + 1) b l) up (noted_outermost m s v (e + 1) b l up h)))))

nested_kept : (m : ℕ) (s : List ℕ) (k : Walk) (l : Level) (up : List Level) → outermost m l up → Kept m (nested s k l up)
unfolding nested
nested_kept m s over l up h = tt
nested_kept m s (bad x rest) l up h = tt
nested_kept m s (label x n e v rest) l up h = turn_kept m s (nested s rest) x e v (mark_of (length s) rest) l up (nested_kept m s rest) h

head_data : (s : List ℕ) (b : Block) (bs : List Block) → bs ≡ b ∷ [] → AllData s bs → DataBlock s b
head_data s b bs e d = (rw e at d).0

silent : (s : List ℕ) (e : ℕ) (r : Survey) (l : Level) (x : Block) (bs : List Block) → r ≡ ended l x bs → Promised s false r → Kept e r → l.link ≡ false → link_said s (from s (e + 1) false) ≡ false
silent s e r l x bs h p k f =
    let p' = rw h at p in
    let d = head_data s x bs (p'.2 f) p'.0 in
    let z : x.eq ≡ e = rw h at k in
    rw (← z) (plain_silent s [] (from s (x.eq + 1) false) x.end x.last d.labels)

by_title : (s : List ℕ) (o : Result Edges Fault) (l : Level) (x : Block) (bs : List Block) → within_title s o ≡ ended l x bs → Promised s false (within_title s o) → l.link ≡ false → link_after s o ≡ false
unfolding within_title link_after
by_title s (Ok y) l x bs h p f = silent s y.eq (nested s (from s (y.eq + 1) false) (fresh y.mark y.eq) []) l x bs h p (nested_kept y.eq s (from s (y.eq + 1) false) (fresh y.mark y.eq) [] refl) f
by_title s (Err r) l x bs h p f = refl

-- The outermost block is not LINK at its END: no label said so.
pub one_silent : (s : List ℕ) (l : Level) (x : Block) (bs : List Block) → surveyed s ≡ ended l x bs → l.link ≡ false → is_compound s ≡ false
unfolding surveyed is_compound
one_silent s l x bs h f = cases (leb (length s) longest_file) refl h (found s)
  where
    cases : (t : Bool) → leb (length s) longest_file ≡ t → pick t (within_title s (opened s)) (refused 19 0) ≡ ended l x bs
        → Promised s false (surveyed s) → link_after s (opened s) ≡ false
    cases true e g p = by_title s (opened s) l x bs g (rw e at p) f
    cases false e g p = absurd (let z : ◌≡◌ {A = ℕ} 0 1 = cc in omega arith)

-- The theorem.
pub one_block : (s : List ℕ) (space : ℕ) (l : Level) (x : Block) (bs : List Block) → surveyed s ≡ ended l x bs → l.link ≡ false → read_compound s space ≡ whole (read_file s space)
one_block s space l x bs h f = old_answers s space (one_silent s l x bs h f)

-- The outermost TITLE's `=` stands in the file.
start_by : (s : List ℕ) (o : Result Edges Fault) → opened s ≡ o → (l : Level) (x : Block) (bs : List Block) → within_title s o ≡ ended l x bs → x.eq < length s
unfolding within_title
start_by s (Ok y) h l x bs g =
    let k = rw g at (nested_kept y.eq s (from s (y.eq + 1) false) (fresh y.mark y.eq) [] refl) in
    rw k (opened_since s y.mark y.eq h).high
start_by s (Err r) h l x bs g = absurd (let z : ◌≡◌ {A = ℕ} 0 1 = cc in omega arith)

pub start_in : (s : List ℕ) (l : Level) (x : Block) (bs : List Block) → surveyed s ≡ ended l x bs → (x.eq < length s) × (length s ≤ longest_file)
unfolding surveyed
start_in s l x bs h = cases (leb (length s) longest_file) refl h
  where
    cases : (t : Bool) → leb (length s) longest_file ≡ t → pick t (within_title s (opened s)) (refused 19 0) ≡ ended l x bs → (x.eq < length s) × (length s ≤ longest_file)
    cases true e g = (start_by s (opened s) refl l x bs g, leb-true (length s) longest_file e)
    cases false e g = absurd (let z : ◌≡◌ {A = ℕ} 0 1 = cc in omega arith)
