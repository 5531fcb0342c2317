-- The turns over the fifteen records of the profile: no place of the code is named here.
use mathlib.Core.Path.{◌≡◌, refl, sym, ap, ◌∙◌}
use mathlib.Core.Bool.{Bool, true, false}
use mathlib.Core.List.{List, [], ◌∷◌, append-nil}
use Prim.Native.Nat.{ℕ, suc, ◌+◌, ◌*◌, ◌-◌, ◌<◌, ◌≤◌}
use native.Mathlib.Numerals.{add-one}
use native.Mathlib.Omega.{arith}
use lib.ListN.{length, take, drop, drop_of_length-le}
use lib.Seq.{sets, sets-eq, length-sets, drop-cons}
use borrow.Rule.Slice.PartMut.{put_mid}
use Rattle.std.proofs.lemmas.Slice.{put_mid-paste}
use Rattle.std.proofs.lemmas.List.Edits.{paste_all}
use Rattle.std.proofs.Common.{append_assoc}
use Rattle.std.specs.Int.{from_bool}
use Rattle.terms.specs.Logic.{by_case, pick, zero_one}
use Rattle.label_spec.specs.Space.{past_space}
use Rattle.profile_spec.specs.declared.Shown.{Shown}
use Rattle.profile_spec.specs.Wanted.{wanted, kth}
use Rattle.profile_spec.specs.Profile.{located, text_at, listed, word_at, judged, words, present, records, profiled, numbers, all_numbers}
use Rattle.profile_law.specs.Fifteen.{long, all_long}
use Rattle.profile_find.specs.Post.{Locates, LocatedIn}
use Rattle.profile_records.specs.Post.{judged_in, after, Surveys}
use Rattle.std.specs.Prelude.{Some, None, Result, Ok, Err, ⊤}
use Rattle.profile_spec.specs.declared.Unfit.{Unfit}

-- ---- `judge_in` and `judge`

module _ (s : List ℕ) (x : Shown) (ws : List (List ℕ)) where
  abbrev Text : List ℕ
  Text = take (x.to - x.from) (drop x.from s)

  pub judged_listed : (q : Bool) → q ≡ listed ws Text → q ≡ true → Ok tt ≡ judged_in s x ws
  judged_listed q e h = unfold judged_in in rw (sym e ∙ h) refl

  pub judged_unlisted : (q : Bool) → q ≡ listed ws Text → q ≡ false → (a : ℕ) → a ≡ past_space Text 0 → Err (Unfit.Unlisted x.page (x.from + a)) ≡ judged_in s x ws
  judged_unlisted q e h a g = unfold judged_in in rw (sym e ∙ h, g) refl

pub inside_of : (s p : List ℕ) (x : Shown) (q : Bool) → x.page ≡ q → LocatedIn s p (Some x) → (x.from ≤ x.to) × (x.to ≤ length (pick q p s))
inside_of s p x q e h = rw e at h

pub judged_source : (s p : List ℕ) (x : Shown) (ws : List (List ℕ)) (q : Bool) → x.page ≡ q → (r : Result ⊤ Unfit) → r ≡ judged_in (pick q p s) x ws → r ≡ judged s p ws (Some x) (Ok tt)
judged_source s p x ws q e r h = h ∙ (unfold judged judged_in in rw e refl)

-- ---- `put`

pub three : (l : List ℕ) (i : ℕ) (x : Shown) → i + 3 ≤ length l → (q : ℕ) → q ≡ from_bool x.page → (ys : List ℕ) → ys ≡ q ∷ x.from ∷ x.to ∷ []
    → put_mid i (i + 3 - i) l ys ≡ sets l i (numbers (Some x) [])
unfolding numbers
three l i x h q g ys e =
    let vs : List ℕ = q ∷ x.from ∷ x.to ∷ [] in
    let m : i + 3 - i ≡ 3 = omega arith in
    put_mid-paste i (i + 3 - i) l ys vs 3 e (sym m) refl ∙ paste_all l i vs 3 refl ∙ sym (rw append_assoc at (sets-eq vs l i h))
    ∙ rw g (by_case (λ t. sets l i (from_bool t ∷ x.from ∷ x.to ∷ []) ≡ sets l i (pick t 1 0 ∷ x.from ∷ x.to ∷ [])) x.page (λ _. refl) (λ _. refl))

-- ---- `survey`

-- what some records say before others, in turn
after_after : (a b c : Result ⊤ Unfit) → after a (after b c) ≡ after (after a b) c
unfolding after
after_after (Ok tt) b c = refl
after_after (Err Unfit.Lacking) b c = refl
after_after (Err (Unfit.Unlisted q a)) b c = refl

after_right : (a : Result ⊤ Unfit) → after a (Ok tt) ≡ a
unfolding after
after_right (Ok tt) = refl
after_right (Err Unfit.Lacking) = refl
after_right (Err (Unfit.Unlisted q a)) = refl

picked_after : (t : Bool) (q : Bool) (a : ℕ) (r : Result ⊤ Unfit) → pick t r (Err (Unfit.Unlisted q a)) ≡ after (pick t (Ok tt) (Err (Unfit.Unlisted q a))) r
unfolding after
picked_after true q a r = refl
picked_after false q a r = refl

judged_after : (s p : List ℕ) (ws : List (List ℕ)) (x : Shown) (r : Result ⊤ Unfit) → judged s p ws (Some x) r ≡ after (judged s p ws (Some x) (Ok tt)) r
unfolding judged
judged_after s p ws x r = picked_after (listed ws (text_at s p x)) x.page (word_at s p x) r

next : (k : ℕ) → k < 15 → drop k wanted ≡ kth k ∷ drop (k + 1) wanted
next k h = let l : k < length wanted = rw long h in drop-cons wanted k (record { name = []; words = [] }) l ∙ rw (add-one k) refl

all_done : (k : ℕ) → 15 ≤ k → drop k wanted ≡ []
all_done k h = let l : length wanted ≤ k = rw long h in drop_of_length-le wanted l

-- a whole list stored over another
pub sets_whole : (l vs : List ℕ) → length l ≡ length vs → sets l 0 vs ≡ vs
sets_whole l vs h =
    let z : 0 + length vs ≤ length l = omega arith in
    let y : length l ≤ 0 + length vs = omega arith in
    sets-eq vs l 0 z ∙ rw (drop_of_length-le l y) (append-nil vs)

-- k records are gone over; i numbers are stored, and said is what was said
pub record Gone (s : List ℕ) (start stop : ℕ) (p : List ℕ) (said : Result ⊤ Unfit) (k i : ℕ) (out : List ℕ) : Type 0 where
  pub many : k ≤ 15
  pub long : length out ≡ 45
  pub at : i ≡ 3 * k
  pub says : profiled s start stop p ≡ records s start stop p (drop k wanted) (after said (words s start stop p (drop k wanted)))
  pub shows : all_numbers s start stop p wanted ≡ sets out i (all_numbers s start stop p (drop k wanted))

-- the numbers of one record, and those after it
sets_three : (out : List ℕ) (i : ℕ) (x : Shown) (ns : List ℕ) → sets out i (numbers (Some x) ns) ≡ sets (sets out i (numbers (Some x) [])) (i + 3) ns
unfolding numbers
sets_three out i x ns = let y : i + 3 ≡ suc (suc (suc i)) = omega arith in rw y refl

module _ (s : List ℕ) (start stop : ℕ) (p : List ℕ) where
  module _ (k : ℕ) (h : k < 15) where
    words_next : words s start stop p (drop k wanted) ≡ judged s p (kth k).words (located s start stop p (kth k).name) (words s start stop p (drop (k + 1) wanted))
    unfolding words
    words_next = rw (next k h) refl

    records_next : (r : Result ⊤ Unfit) → records s start stop p (drop k wanted) r ≡ present (located s start stop p (kth k).name) (records s start stop p (drop (k + 1) wanted) r)
    unfolding records
    records_next r = rw (next k h) refl

    numbers_next : all_numbers s start stop p (drop k wanted) ≡ numbers (located s start stop p (kth k).name) (all_numbers s start stop p (drop (k + 1) wanted))
    unfolding all_numbers
    numbers_next = rw (next k h) refl

  pub gone_begin : (out : List ℕ) → length out ≡ 45 → Gone s start stop p (Ok tt) 0 0 out
  gone_begin out h =
      let l = all_long s start stop p wanted in
      let e : length out ≡ length (all_numbers s start stop p wanted) = omega (arith, long) in
      record { many = omega arith; long = h; at = refl; says = (unfold profiled after in refl); shows = sym (sets_whole out (all_numbers s start stop p wanted) e) }

  module _ (said : Result ⊤ Unfit) (k i : ℕ) (out : List ℕ) (c : Gone s start stop p said k i out) where
    pub gone_done : 15 ≤ k → Surveys s start stop p out said
    gone_done h =
        record {
          is = sym (c.says ∙ (unfold records words in rw (all_done k h) (after_right said)));
          shows = λ _. sym (c.shows ∙ (unfold all_numbers in rw (all_done k h) refl));
        }

    module _ (h : k < 15) where
      abbrev Rest : Result ⊤ Unfit
      Rest = words s start stop p (drop (k + 1) wanted)

      pub gone_lacks : Locates s start stop p (kth k).name None → Surveys s start stop p out (Err Unfit.Lacking)
      unfolding present
      gone_lacks l = record { is = sym (c.says ∙ records_next k h (after said (words s start stop p (drop k wanted))) ∙ rw (← l.is) refl); shows = λ e. zero_one cc }

      module _ (x : Shown) (l : Locates s start stop p (kth k).name (Some x)) where
        says_on : records s start stop p (drop k wanted) (after said (words s start stop p (drop k wanted)))
            ≡ records s start stop p (drop (k + 1) wanted) (after (after said (judged s p (kth k).words (Some x) (Ok tt))) Rest)
        unfolding present
        says_on =
            records_next k h (after said (words s start stop p (drop k wanted)))
            ∙ rw (words_next k h, ← l.is, judged_after s p (kth k).words x Rest, after_after said (judged s p (kth k).words (Some x) (Ok tt)) Rest) refl

        pub gone_on : (j : Result ⊤ Unfit) → j ≡ judged s p (kth k).words (Some x) (Ok tt) → (said' : Result ⊤ Unfit) → said' ≡ after said j
            → (out' : List ℕ) → out' ≡ sets out i (numbers (Some x) []) → Gone s start stop p said' (k + 1) (i + 3) out'
        gone_on j ej said' es out' eo =
            record {
              many = omega arith;
              long = ap (λ (n : List ℕ). length n) eo ∙ length-sets out i (numbers (Some x) []) ∙ c.long;
              at = omega (arith, c.at);
              says = c.says ∙ says_on ∙ rw (es, ej) refl;
              shows = c.shows ∙ rw (numbers_next k h, ← l.is, eo) (sets_three out i x (all_numbers s start stop p (drop (k + 1) wanted)));
            }
