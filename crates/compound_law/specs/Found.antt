-- Each block that the survey finds is a data block of the file.
use Rattle.std.specs.Prelude.{◌≡◌, Bool, true, false, ℕ, suc, ◌+◌, leb, ltb, length, Result, Ok, Err}
use Rattle.std.proofs.Math.Path.{refl}
use Rattle.std.proofs.Common.{ap, sym, ◌∙◌, inl, inr, arith}
use mathlib.Core.List.{List, [], ◌∷◌}
use Rattle.terms.specs.Logic.{pick, both, no_way, ok_same}
use Rattle.terms.specs.Refusals.{fault_at}
use Rattle.label_spec.specs.Space.{past_space}
use Rattle.label_spec.specs.Names.{sames, TITLE, END}
use Rattle.label_spec.specs.Labels.{Walk, over, bad, label, from, hashed}
use Rattle.label_spec.specs.File.{longest_file, twice, titled, opened_at, opened}
use Rattle.label_spec.specs.Records.{mark_of}
use Rattle.compound_spec.specs.declared.Block.{Block}
use Rattle.compound_spec.specs.Blocks.{says, Level, fresh, noted, deepest, Survey, refused, ended, push, block_of, closed, tested, turn, nested, within_title, surveyed}
use Rattle.compound_law.specs.Standing.{Standing, Sound, sound}
use Rattle.compound_law.specs.Plain.{DataBlock, Since, AllLink, outer, Promised}
use Rattle.label_spec.specs.declared.Edges.{Edges}
use Rattle.terms.specs.declared.Fault.{Fault}
use Rattle.label_spec.specs.Parts.{edges_with}

pub by_pick : (P : Survey → Type 0) (t : Bool) (a b : Survey) → (t ≡ true → P a) → (t ≡ false → P b) → P (pick t a b)
by_pick P true a b f g = f refl
by_pick P false a b f g = g refl

-- The outermost block has said no less than before.
weaker : (s : List ℕ) (t u : Bool) (r : Survey) → (u ≡ true → t ≡ true) → Promised s t r → Promised s u r
weaker s t u (refused c a) h p = tt
weaker s t u (ended l o bs) h p = (p.0, λ e. p.1 (h e), p.2)

outer_true : (l : Level) (up : List Level) → l.link ≡ true → outer l up ≡ true
outer_true l [] h = h
outer_true l (o ∷ up) h = refl

-- A data block before the others.
pushed : (s : List ℕ) (b : Block) (r : Survey) → DataBlock s b → Promised s true r → Promised s true (push b r)
unfolding push
pushed s b (refused c a) d p = tt
pushed s b (ended l o bs) d p = ((d, p.0), p.1, λ f. no_way (sym f ∙ p.1 refl))

-- At END.
block_here : (s : List ℕ) (l : Level) (x n e : ℕ) (v : List ℕ) (rest : Walk) → sames v END ≡ true → Since s l (label x n e v rest) → DataBlock s (block_of l x e)
block_here s l x n e v rest h c =
    record {
      name = c.name;
      text = c.text;
      is_title = c.is_title;
      hash = c.hash;
      at = c.at;
      high = c.high;
      labels = c.up_to x e (inl (record { is_end = h; mark = refl; eq = refl }));
    }

module _ (s : List ℕ) (K : Level → List Level → Survey) (x n e : ℕ) (v : List ℕ) (rest : Walk) (l : Level) (h : sames v END ≡ true)
    (c : l.link ≡ false → Since s l (label x n e v rest)) where
  here : (t : Bool) → l.link ≡ t → Promised s t (ended l (block_of l x e) (pick t [] (block_of l x e ∷ [])))
  here true q = (tt, λ e. q, λ f. no_way (sym f ∙ q))
  here false q = ((block_here s l x n e v rest h (c q), tt), λ f. no_way f, λ f. refl)

  back : (o : Level) (up : List Level) (t : Bool) → l.link ≡ t → Promised s true (K o up) → Promised s true (pick t (K o up) (push (block_of l x e) (K o up)))
  back o up true q p = p
  back o up false q p = pushed s (block_of l x e) (K o up) (block_here s l x n e v rest h (c q)) p

  closed_promised : (up : List Level) → AllLink up → ((o : Level) (ups : List Level) → (o.link ≡ true) → AllLink ups → Promised s true (K o ups)) → Promised s (outer l up) (closed K l x e up)
  unfolding closed
  closed_promised [] a k = here l.link refl
  closed_promised (o ∷ up) a k = back o up l.link refl (k o up a.0 a.1)

-- At another label of the block's own.
pub neither : (t u : Bool) → pick t true u ≡ false → (t ≡ false) × (u ≡ false)
neither true u h = no_way (sym h)
neither false u h = (refl, h)

kept : (t u : Bool) → u ≡ true → pick t true u ≡ true
kept true u h = refl
kept false u h = h

module _ (s : List ℕ) (x n e : ℕ) (v : List ℕ) (rest : Walk) (l : Level) (c : l.link ≡ false → Since s l (label x n e v rest))
    (h : sames v END ≡ false) (g : sames v TITLE ≡ false) (f : twice v l.names ≡ false) where
  noted_since : (noted s v (e + 1) (mark_of (length s) rest) l).link ≡ false → Since s (noted s v (e + 1) (mark_of (length s) rest) l) rest
  unfolding noted
  noted_since q =
      let b = neither (says s v (e + 1) (mark_of (length s) rest)) l.link q in
      let d = c b.1 in
      record {
        name = d.name;
        text = d.text;
        is_title = d.is_title;
        hash = d.hash;
        at = d.at;
        high = d.high;
        up_to = λ y z p. d.up_to y z (inr (record { no_end = h; no_title = g; once = f; no_link = b.0 }, p));
      }

  noted_outer : (up : List Level) → outer l up ≡ true → outer (noted s v (e + 1) (mark_of (length s) rest) l) up ≡ true
  unfolding noted
  noted_outer [] q = kept (says s v (e + 1) (mark_of (length s) rest)) l.link q
  noted_outer (o ∷ up) q = refl

fresh_since : (s : List ℕ) (x n e : ℕ) (v : List ℕ) (rest : Walk) → sames v TITLE ≡ true → Standing s x n e v rest → Since s (fresh x e) rest
fresh_since s x n e v rest h d =
    record {
      name = v;
      text = n;
      is_title = h;
      hash = d.hash;
      at = d.at ∙ ap (label x n e v) d.on;
      high = d.high;
      up_to = λ y z p. rw (← d.on) p;
    }

-- One label.
module _ (s : List ℕ) (x n e : ℕ) (v : List ℕ) (rest : Walk) (l : Level) (up : List Level) (d : Standing s x n e v rest)
    (c : l.link ≡ false → Since s l (label x n e v rest)) (a : AllLink up)
    (ih : (o : Level) (ups : List Level) → (o.link ≡ false → Since s o rest) → AllLink ups → Promised s (outer o ups) (nested s rest o ups)) where
  linked : (o : Level) (ups : List Level) → o.link ≡ true → AllLink ups → Promised s true (nested s rest o ups)
  linked o ups h b = rw (outer_true o ups h) at (ih o ups (λ f. no_way (sym f ∙ h)) b)

  inner : sames v TITLE ≡ true → (t : Bool) → l.link ≡ t → (u : Bool) → Promised s (outer l up) (pick (both t u) (nested s rest (fresh x e) (l ∷ up)) (refused 24 x))
  inner h true q true = rw (outer_true l up q) (ih (fresh x e) (l ∷ up) (λ f. fresh_since s x n e v rest h d) (q, a))
  inner h true q false = tt
  inner h false q u = tt

  own : sames v END ≡ false → sames v TITLE ≡ false → twice v l.names ≡ false → (t : Bool)
      → Promised s (outer l up) (pick t (refused 33 x) (nested s rest (noted s v (e + 1) (mark_of (length s) rest) l) up))
  own h g f true = tt
  own h g f false =
      weaker s (outer (noted s v (e + 1) (mark_of (length s) rest) l) up) (outer l up) (nested s rest (noted s v (e + 1) (mark_of (length s) rest) l) up)
      (noted_outer s x n e v rest l c h g f up) (ih (noted s v (e + 1) (mark_of (length s) rest) l) up (noted_since s x n e v rest l c h g f) a)

  turn_promised : Promised s (outer l up) (turn s (nested s rest) x e v (mark_of (length s) rest) l up)
  unfolding turn tested
  turn_promised =
      by_pick (Promised s (outer l up)) (sames v END) _ _ (λ h. closed_promised s (nested s rest) x n e v rest l h c up a linked)
      (λ h. by_pick (Promised s (outer l up)) (sames v TITLE) _ _ (λ g. inner g l.link refl (ltb (suc (length up)) deepest))
      (λ g. by_pick (Promised s (outer l up)) (twice v l.names) _ _ (λ f. tt)
      (λ f. own h g f (both (noted s v (e + 1) (mark_of (length s) rest) l).link (noted s v (e + 1) (mark_of (length s) rest) l).table))))

promised : (s : List ℕ) (k : Walk) (l : Level) (up : List Level) → Sound s k → (l.link ≡ false → Since s l k) → AllLink up → Promised s (outer l up) (nested s k l up)
unfolding nested
promised s over l up d c a = tt
promised s (bad x rest) l up d c a = tt
promised s (label x n e v rest) l up d c a = turn_promised s x n e v rest l up d.0 c a (λ o ups f b. promised s rest o ups d.1 f b)

-- The title, and the whole file.
titled_since : (s : List ℕ) (p m e : ℕ) (k : Walk) → Sound s k → titled p k ≡ Ok (edges_with m e) → Since s (fresh m e) (from s (e + 1) false)
unfolding titled
titled_since s p m e over d h = absurd (let z : ◌≡◌ {A = ℕ} 0 1 = cc in omega arith)
titled_since s p m e (bad x rest) d h = absurd (let z : ◌≡◌ {A = ℕ} 0 1 = cc in omega arith)
titled_since s p m e (label x n q v rest) d h = cases (sames v TITLE) refl h
  where
    cases : (t : Bool) → sames v TITLE ≡ t → pick t (Ok (edges_with x q)) (Err (fault_at 21 p)) ≡ Ok (edges_with m e) → Since s (fresh m e) (from s (e + 1) false)
    cases true g f =
        let y = ap (λ r. r.mark) (ok_same f) in
        let z = ap (λ r. r.eq) (ok_same f) in
        rw (← y, ← z) (rw d.0.on at (fresh_since s x n q v rest g d.0))
    cases false g f = absurd (let z : ◌≡◌ {A = ℕ} 0 1 = cc in omega arith)

pub opened_since : (s : List ℕ) (m e : ℕ) → opened s ≡ Ok (edges_with m e) → Since s (fresh m e) (from s (e + 1) false)
unfolding opened opened_at
opened_since s m e h = cases (hashed s (past_space s 0)) refl h
  where
    cases : (t : Bool) → hashed s (past_space s 0) ≡ t
        → pick t (titled (past_space s 0) (from s (past_space s 0) true)) (Err (fault_at 21 (past_space s 0))) ≡ Ok (edges_with m e) → Since s (fresh m e) (from s (e + 1) false)
    cases true g f = titled_since s (past_space s 0) m e (from s (past_space s 0) true) (sound s (past_space s 0) true) f
    cases false g f = absurd (let z : ◌≡◌ {A = ℕ} 0 1 = cc in omega arith)

within_promised : (s : List ℕ) (o : Result Edges Fault) → opened s ≡ o → Promised s false (within_title s o)
unfolding within_title
within_promised s (Ok x) h = promised s (from s (x.eq + 1) false) (fresh x.mark x.eq) [] (sound s (x.eq + 1) false) (λ f. opened_since s x.mark x.eq h) tt
within_promised s (Err r) h = tt

-- The theorem.
pub found : (s : List ℕ) → Promised s false (surveyed s)
unfolding surveyed
found s = by_pick (Promised s false) (leb (length s) longest_file) _ _ (λ h. within_promised s (opened s) refl) (λ h. tt)
