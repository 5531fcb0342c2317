-- The turns of the scan of a block's own labels: no place of the code is named here.
use Rattle.label_spec.specs.declared.Label.{Label}
use mathlib.Core.Path.{◌≡◌, refl, ap, sym, ◌∙◌}
use mathlib.Core.Bool.{Bool, true, false}
use mathlib.Core.List.{List, [], ◌∷◌}
use Prim.Native.Nat.{ℕ, zero, suc, ◌+◌, ◌-◌, ◌<◌, ◌≤◌}
use native.Mathlib.Numerals.{add-one}
use native.Mathlib.Omega.{arith}
use lib.Dec.{leb, eqb}
use lib.ListN.{length, take, drop}
use Rattle.label_spec.specs.NameLaws.{name_end}
use borrow.Author.Tests.{leb-true, leb-false, lt-ltb, le-ltb, ne_eqb}
use Rattle.terms.specs.Logic.{both, both_true, zero_one, no_way}
use Rattle.label_spec.specs.SharedLaws.{picked}
use Rattle.label_spec.specs.Names.{blank, ignored, upper, norm, sames, TITLE, END, name_in}
use Rattle.label_spec.specs.Labels.{Walk, over, bad, label, longest_name, headed, from, hashed}
use Rattle.label_spec.specs.LabelLaws.{eq_at, resume, from_end, hash_in}
use Rattle.label_names.specs.Post.{empty, first_of, unlike}
use Rattle.label_names.proofs.NameTurns.{apart, apart_word}
use Rattle.label_lines.specs.Post.{Marked, Met}
use Rattle.label_spec.specs.Records.{mark_of}
use Rattle.label_spec.specs.RecordLaws.{mark_hashed}
use Rattle.label_judged.proofs.MarkTurns.{rest_of, mark_here, mark_rest}
use Rattle.label_judged.proofs.JudgeTurns.{mark_is}
use Rattle.compound_names.specs.declared.Meet.{Meet}
use Rattle.compound_names.specs.OwnNames.{leave, meet, own_known, own_clash}
use Rattle.compound_names.specs.Post.{other_by, Meets, Passes}
use Rattle.std.specs.Prelude.{Option, Some, None}

-- `met`
module _ (w v : List ℕ) (d : ℕ) where
  pub meet_over : sames v END ≡ true → d ≡ 0 → Meets w v d Meet.Over
  unfolding meet
  meet_over e z = record { law = λ K. rw (e, z) refl; deep = tt }

  pub meet_leave : sames v END ≡ true → (d ≡ 0 → ⊥) → Meets w v d (Meet.Depth (d - 1))
  unfolding meet
  meet_leave e z = record { law = λ K. rw e (cases K d z); deep = omega arith }
    where
      cases : (K : ℕ → Bool) (a : ℕ) → (a ≡ 0 → ⊥) → leave K a ≡ K (a - 1)
      cases K zero n = absurd (n refl)
      cases K (suc a) n = ap K (omega arith)

  module _ (e : sames v END ≡ false) where
    pub meet_enter : sames v TITLE ≡ true → Meets w v d (Meet.Depth (d + 1))
    unfolding meet
    meet_enter f = record { law = λ K. rw (e, f, add-one d) refl; deep = omega arith }

    module _ (f : sames v TITLE ≡ false) where
      pub meet_pass : (d ≡ 0 → ⊥) → Meets w v d (Meet.Depth d)
      unfolding meet
      meet_pass z = record { law = λ K. rw (e, f, ne_eqb d 0 z) refl; deep = omega arith }

      pub meet_known : d ≡ 0 → sames v w ≡ true → Meets w v d Meet.Known
      unfolding meet
      meet_known z g = record { law = λ K. rw (e, f, z, g) refl; deep = tt }

      pub meet_other : d ≡ 0 → sames v w ≡ false → Meets w v d (Meet.Depth d)
      unfolding meet
      meet_other z g = record { law = λ K. rw (e, f, z, g) refl; deep = omega arith }

-- `met_here`: the label is bad, or its name is met.
module _ (s : List ℕ) (m : ℕ) (y : hashed s m ≡ true) (w : List ℕ) (d : ℕ) where
  on : (k : Walk) → from s m true ≡ k → rest_of k ≡ from s (m + 2) false
  on k e = ap rest_of (sym e) ∙ mark_rest s m y

  at_mark : (k : Walk) (a : ℕ) → from s m true ≡ k → mark_of 0 k ≡ a → a ≡ m
  at_mark k a e f = sym f ∙ (sym (ap (mark_of 0) e) ∙ mark_hashed s 0 m y)

  pub passes_none : Met s m true Label.None → Passes s m w d (Meet.Depth d)
  unfolding resume
  passes_none x = record { law = λ z h. ap (λ (k : Walk). own_known z w k d) (x.law ∙ (unfold rest_of in on over x.law)); deep = omega arith }

  pub passes_bad : (a : ℕ) → Met s m true (Label.Bad a) → Passes s m w d (Meet.Depth d)
  unfolding resume own_known rest_of mark_of
  passes_bad a x =
      let q = at_mark (bad a (from s (a + 1) false)) a x.law refl in
      record {
        law = λ z h. ap (λ (k : Walk). own_known z w k d) x.law ∙ rw (on (bad a (from s (a + 1) false)) x.law, lt-ltb a z (omega arith)) refl;
        deep = omega arith;
      }

  pub passes_met : (a n e : ℕ) (r : Meet) → Met s m true (Label.At a n e) → Meets w (name_in s n e) d r → Passes s m w d r
  unfolding resume own_known rest_of mark_of
  passes_met a n e r x g =
      let q = at_mark (label a n e (name_in s n e) (from s (e + 1) false)) a x.law refl in
      record {
        law = λ z h. ap (λ (k : Walk). own_known z w k d) x.law
            ∙ rw (lt-ltb a z (omega arith), ← on (label a n e (name_in s n e) (from s (e + 1) false)) x.law) (g.law (own_known z w (from s (e + 1) false)));
        deep = g.deep;
      }

  -- Its name is another, by the first byte, whether the label is good or bad.
  module _ (g : (e : ℕ) → sames (name_in s (m + 2) e) END ≡ false) (f : (e : ℕ) → sames (name_in s (m + 2) e) TITLE ≡ false) (o : (e : ℕ) → sames (name_in s (m + 2) e) w ≡ false) where
    nothing : (t : Bool) → both t false ≡ false
    nothing true = refl
    nothing false = refl

    other_headed : (z : ℕ) → m < z → (k : Walk) (p : Option ℕ) → own_known z w (headed (drop (m + 2) s) m (m + 2) k p) d ≡ own_known z w k d
    unfolding headed own_known meet name_in
    other_headed z h k None = rw (lt-ltb m z h) refl
    other_headed z h k (Some e) =
        picked (λ (a : Walk). own_known z w a d ≡ own_known z w k d) (leb (length (norm (take (e - (m + 2)) (drop (m + 2) s)))) longest_name)
        (rw (lt-ltb m z h, g e, f e, o e, nothing (eqb d 0)) refl) (rw (lt-ltb m z h) refl)

    passes_apart : Passes s m w d (Meet.Depth d)
    passes_apart = record { law = λ z h. ap (λ (k : Walk). own_known z w k d) (mark_here s m y) ∙ other_headed z h (from s (m + 2) false) (eq_at s (m + 2)); deep = omega arith }

word_end : (s : List ℕ) (a : ℕ) → unlike (first_of s a) 69 ≡ true → (e : ℕ) → sames (name_in s a e) END ≡ false
word_end s a h e = unfold first_of norm ignored blank upper END in apart_word s a END h e

word_title : (s : List ℕ) (a : ℕ) → unlike (first_of s a) 84 ≡ true → (e : ℕ) → sames (name_in s a e) TITLE ≡ false
word_title s a h e = unfold first_of norm ignored blank upper TITLE in apart_word s a TITLE h e

-- Its first byte b, and that of the name which is looked for.
pub passes_other : (s : List ℕ) (m : ℕ) → hashed s m ≡ true → (name eq d b c : ℕ) → name < eq → b ≡ first_of s (m + 2) → c ≡ first_of s name → other_by b c ≡ true
    → Passes s m (name_in s name eq) d (Meet.Depth d)
unfolding other_by
passes_other s m y name eq d b c l e f h =
    let p = both_true (unlike b 69) (both (unlike b 84) (unlike b c)) h in
    let q = both_true (unlike b 84) (unlike b c) p.1 in
    passes_apart s m y (name_in s name eq) d (apart_end (rw e at p.0)) (apart_title (rw e at q.0)) (λ a. apart s (m + 2) s name (rw (e, f) at q.1) a eq l)
  where
    apart_end : unlike (first_of s (m + 2)) 69 ≡ true → (a : ℕ) → sames (name_in s (m + 2) a) END ≡ false
    apart_end k a = word_end s (m + 2) k a

    apart_title : unlike (first_of s (m + 2)) 84 ≡ true → (a : ℕ) → sames (name_in s (m + 2) a) TITLE ≡ false
    apart_title k a = word_title s (m + 2) k a

-- `own_known`
pub record Near (s : List ℕ) (start mark : ℕ) (w : List ℕ) (at d : ℕ) : Type 0 where
  pub high : at ≤ length s
  pub deep : d ≤ at
  pub law : own_known mark w (from s start false) 0 ≡ own_known mark w (from s at false) d

pub near_begin : (s : List ℕ) (start mark : ℕ) (w : List ℕ) → start ≤ length s → Near s start mark w start 0
near_begin s start mark w h = record { high = h; deep = omega arith; law = refl }

-- From the place on there is no label before the mark.
past_mark : (s : List ℕ) (mark : ℕ) (w : List ℕ) (d x : ℕ) (k : Walk) → mark_of (length s) k ≡ x → mark ≤ x → own_known mark w k d ≡ false
unfolding own_known mark_of
past_mark s mark w d x over e h = refl
past_mark s mark w d x (bad a rest) e h = rw (le-ltb a mark (omega arith)) refl
past_mark s mark w d x (label a n q v rest) e h = rw (le-ltb a mark (omega arith)) refl

module _ (s : List ℕ) (start mark : ℕ) (w : List ℕ) (at d : ℕ) (c : Near s start mark w at d) (x : ℕ) (q : Marked s at x) where
  near_mark : own_known mark w (from s start false) 0 ≡ own_known mark w (from s x true) d
  near_mark = c.law ∙ ap (λ (k : Walk). own_known mark w k d) q.same

  pub near_past : mark ≤ x → false ≡ own_known mark w (from s start false) 0
  near_past h = sym (c.law ∙ past_mark s mark w d x (from s at false) (sym (mark_is s at x q)) h)

  pub near_none : length s ≤ x → false ≡ own_known mark w (from s start false) 0
  unfolding own_known
  near_none h = sym (near_mark ∙ rw (from_end s x true h) refl)

  module _ (h : x < mark) (l : x < length s) where
    pub near_known : Passes s x w d Meet.Known → true ≡ own_known mark w (from s start false) 0
    near_known y = sym (near_mark ∙ y.law mark h)

    pub near_over : Passes s x w d Meet.Over → false ≡ own_known mark w (from s start false) 0
    near_over y = sym (near_mark ∙ y.law mark h)

    pub near_on : (b : ℕ) → Passes s x w d (Meet.Depth b) → Near s start mark w (x + 2) b
    near_on b y = let z = hash_in s x (q.stops l) in record { high = omega arith; deep = omega (arith, y.deep, c.deep, q.low); law = near_mark ∙ y.law mark h }

-- `own_clash`
pub clash_empty : (m : ℕ) (v : List ℕ) (k : Walk) → empty v ≡ true → false ≡ own_clash m v k
unfolding empty own_clash
clash_empty m [] k h = refl
clash_empty m (b ∷ v) k h = zero_one cc

pub clash_some : (m : ℕ) (v : List ℕ) (k : Walk) (r : Bool) → empty v ≡ false → r ≡ own_known m v k 0 → r ≡ own_clash m v k
unfolding empty own_clash
clash_some m [] k r h g = zero_one cc
clash_some m (b ∷ v) k r h g = g

-- A name that is not empty has a byte.
pub some_name : (s : List ℕ) (a e : ℕ) (r : Bool) → r ≡ empty (name_in s a e) → r ≡ false → a < e
some_name s a e r h g = cases (leb e a) refl
  where
    none : name_in s a e ≡ [] → empty (name_in s a e) ≡ true
    none k = rw k (unfold empty in refl)

    cases : (t : Bool) → leb e a ≡ t → a < e
    cases true k = no_way (sym g ∙ (h ∙ none (name_end s a e (leb-true e a k))))
    cases false k = leb-false e a k
