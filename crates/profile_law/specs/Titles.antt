-- TITLE is none of the fifteen: where one of them stands in a file whose labels are not refused, it stands after TITLE and before END.
use Rattle.std.specs.Prelude.{◌≡◌, Bool, true, false, ℕ, zero, suc, ◌+◌, ◌<◌, ◌≤◌, leb, length, get_or, Result, Ok, Err}
use Rattle.std.proofs.Math.Path.{refl}
use mathlib.Core.List.{List, [], ◌∷◌, ◌++◌}
use Rattle.std.proofs.Math.Numerals.{add-one}
use Rattle.std.proofs.Common.{ap, arith, not-suc-le-zero, le_of_suc-le-suc}
use borrow.Author.Tests.{lt-ltb}
use Rattle.terms.specs.Logic.{pick, zero_one, no_way, ok_same}
use Rattle.terms.specs.Refusals.{fault_at}
use Rattle.label_spec.specs.Names.{sames, TITLE, END}
use Rattle.label_spec.specs.NameLaws.{sames_eq}
use Rattle.label_spec.specs.Labels.{Walk, over, bad, label, from}
use Rattle.label_spec.specs.File.{longest_file, opened, twice, judged, placed, after_title, labelled}
use Rattle.label_spec.specs.Records.{record_of, as_record, record_in, record_for}
use Rattle.compound_law.specs.Above.{Above, from_above}
use Rattle.compound_law.specs.Standing.{sound}
use Rattle.compound_law.specs.Found.{opened_since}
use Rattle.profile_spec.specs.Wanted.{Wanted, wanted, kth}
use Rattle.profile_law.specs.Fifteen.{long}
use Rattle.label_spec.specs.declared.Edges.{Edges}
use Rattle.terms.specs.declared.Fault.{Fault}
use Rattle.label_spec.specs.Parts.{edges_with, places_with}

-- ---- no name of the fifteen is TITLE

abbrev untitled : List Wanted → Bool
untitled [] = true
untitled (v ∷ vs) = pick (sames TITLE v.name) false (untitled vs)

none_titled : untitled wanted ≡ true
unfolding wanted sames TITLE
none_titled = refl

pick_left : (a b : Bool) → pick a false b ≡ true → (a ≡ false) × (b ≡ true)
pick_left true b e = no_way e
pick_left false b e = (refl, e)

each_untitled : (vs : List Wanted) → untitled vs ≡ true → (d : Wanted) (k : ℕ) → k < length vs → sames TITLE (get_or vs k d).name ≡ false
each_untitled [] e d k h = absurd (not-suc-le-zero h)
each_untitled (v ∷ vs) e d zero h = (pick_left (sames TITLE v.name) (untitled vs) e).0
each_untitled (v ∷ vs) e d (suc k) h = each_untitled vs (pick_left (sames TITLE v.name) (untitled vs) e).1 d k (le_of_suc-le-suc h)

pub name_untitled : (k : ℕ) → k < 15 → sames TITLE (kth k).name ≡ false
name_untitled k h = let l : k < length wanted = rw long h in each_untitled wanted none_titled _ k l

-- ---- the places of TITLE and END

-- END stands where the walk may come to
ended_above : (i len : ℕ) (done : List (List ℕ)) (k : Walk) (x q : ℕ) → Above i k → judged len done k ≡ Ok (edges_with x q) → i ≤ x
unfolding judged
ended_above i len done over x q a e = zero_one cc
ended_above i len done (bad y rest) x q a e = zero_one cc
ended_above i len done (label y n z v rest) x q a e = first (λ g. ended_above i len (done ++ v ∷ []) rest x q a.1 g) (sames v END) e
  where
    third : (judged len (done ++ v ∷ []) rest ≡ Ok (edges_with x q) → i ≤ x) → (t : Bool) → pick t (Err (fault_at 23 y)) (judged len (done ++ v ∷ []) rest) ≡ Ok (edges_with x q) → i ≤ x
    third k true g = zero_one cc
    third k false g = k g

    second : (judged len (done ++ v ∷ []) rest ≡ Ok (edges_with x q) → i ≤ x) → (t : Bool)
        → pick t (Err (fault_at 24 y)) (pick (twice v done) (Err (fault_at 23 y)) (judged len (done ++ v ∷ []) rest)) ≡ Ok (edges_with x q) → i ≤ x
    second k true g = zero_one cc
    second k false g = third k (twice v done) g

    first : (judged len (done ++ v ∷ []) rest ≡ Ok (edges_with x q) → i ≤ x) → (t : Bool)
        → pick t (Ok (edges_with y z)) (pick (sames v TITLE) (Err (fault_at 24 y)) (pick (twice v done) (Err (fault_at 23 y)) (judged len (done ++ v ∷ []) rest)))
        ≡ Ok (edges_with x q) → i ≤ x
    first k true g = let w = ap (λ r. r.mark) (ok_same g) in omega (arith, a.0)
    first k false g = second k (sames v TITLE) g

module _ (s : List ℕ) (m e x : ℕ) where
  pub record Between : Type 0 where
    pub opens : opened s ≡ Ok (edges_with m e)
    pub last : ℕ
    pub ends : judged (length s) [] (from s (e + 1) false) ≡ Ok (edges_with x last)

  by_walk : (m' e' : ℕ) (w : Result Edges Fault) → judged (length s) [] (from s (e' + 1) false) ≡ w → opened s ≡ Ok (edges_with m' e') → placed m' e' w ≡ Ok (places_with m e x) → Between
  unfolding placed
  by_walk m' e' (Err r) h o g = zero_one cc
  by_walk m' e' (Ok z) h o g =
      let same = ok_same g in
      let a = ap (λ r. r.title) same in let b = ap (λ r. r.eq) same in let c = ap (λ r. r.end) same in
      record { opens = rw (a, b) at o; last = z.eq; ends = rw (b, c) at h }

  by_title : (o : Result Edges Fault) → opened s ≡ o → after_title s o ≡ Ok (places_with m e x) → Between
  unfolding after_title
  by_title (Err r) o g = zero_one cc
  by_title (Ok x) o g = by_walk x.mark x.eq (judged (length s) [] (from s (x.eq + 1) false)) refl o g

  by_length : (t : Bool) → pick t (after_title s (opened s)) (Err (fault_at 19 0)) ≡ Ok (places_with m e x) → Between
  by_length true g = by_title (opened s) refl g
  by_length false g = zero_one cc

  pub between : labelled s ≡ Ok (places_with m e x) → Between
  unfolding labelled
  between h = by_length (leb (length s) longest_file) h

  module _ (h : labelled s ≡ Ok (places_with m e x)) where
    pub title_before : m < x
    title_before =
        let b = between h in
        let t = opened_since s m e b.opens in
        let d = rw t.at at (sound s m true) in
        omega (arith, d.0.low, ended_above (e + 1) (length s) [] (from s (e + 1) false) x b.last (from_above s (e + 1) false) b.ends)

    -- a record with another name is looked for after TITLE
    pub record_after : (w : List ℕ) → sames TITLE w ≡ false → record_for s w ≡ as_record (record_of (length s) x w (from s (suc e) false))
    unfolding record_for record_in record_of
    record_after w n =
        let t = opened_since s m e (between h).opens in
        let v = sames_eq t.name TITLE t.is_title in
        rw (h, t.at, lt-ltb m x title_before, v, n, add-one e) refl
