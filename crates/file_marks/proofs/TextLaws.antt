-- The texts of records, place by place. No place of the code is named here. Assumes nothing.
use mathlib.Core.Path.{◌≡◌, refl, sym, ap, ◌∙◌}
use mathlib.Core.Bool.{true, false}
use mathlib.Core.List.{List, [], ◌∷◌}
use Prim.Native.Nat.{ℕ, suc, ◌+◌, ◌≤◌, ◌<◌, ◌-◌}
use native.Mathlib.Omega.{arith}
use native.Mathlib.Numerals.{add-one}
use lib.Dec.{leb, eqb}
use lib.ListN.{length, get_or, drop, drop_of_length-le, length-drop}
use lib.Seq.{drop-cons, length-take-le}
use borrow.Author.Tests.{eq-eqb, ne_eqb, leb-true, leb-false}
use Rattle.terms.specs.Logic.{pick, by_case}
use Rattle.label_spec.specs.SharedLaws.{first_byte}
use Rattle.file_spec.specs.Texts.{spacing, first_mark, LIST, ended, matched, listed_as, text_in}
use Rattle.file_marks.specs.Spans.{list_step, ListedWithin, Within}
use Rattle.label_spec.specs.declared.Span.{Span}
use Rattle.std.specs.Prelude.{Some, None}

-- the byte after a place
after : (s : List ℕ) (i : ℕ) → get_or (drop (suc i) s) 0 0 ≡ get_or s (i + 1) 0
after s i = first_byte s (suc i) ∙ ap (λ (k : ℕ). get_or s k 0) (sym (add-one i))

-- ---- the first mark

pub mark_end : (s : List ℕ) (i : ℕ) → length s ≤ i → first_mark (drop i s) i ≡ i
unfolding first_mark
mark_end s i h = rw (drop_of_length-le s h) refl

pub mark_here : (s : List ℕ) (i : ℕ) → i < length s → spacing (get_or s i 0) (get_or s (i + 1) 0) ≡ false → first_mark (drop i s) i ≡ i
unfolding first_mark
mark_here s i h e = rw (drop-cons s i 0 h, after s i, e) refl

pub mark_on : (s : List ℕ) (i : ℕ) → i < length s → spacing (get_or s i 0) (get_or s (i + 1) 0) ≡ true → first_mark (drop i s) i ≡ first_mark (drop (i + 1) s) (i + 1)
unfolding first_mark
mark_on s i h e = rw (drop-cons s i 0 h, after s i, e, add-one i) refl

-- ---- the list of XYDATA, of which k bytes have stood

pub list_end : (s : List ℕ) (i : ℕ) (w : List ℕ) → length s ≤ i → listed_as (drop i s) i w ≡ ended w i
unfolding listed_as
list_end s i w h = rw (drop_of_length-le s h) refl

pub list_lf : (s : List ℕ) (i : ℕ) (w : List ℕ) → i < length s → get_or s i 0 ≡ 10 → listed_as (drop i s) i w ≡ ended w (i + 1)
unfolding listed_as
list_lf s i w h e = rw (drop-cons s i 0 h, eq-eqb (get_or s i 0) 10 e, add-one i) refl

list_at : (s : List ℕ) (i : ℕ) (w : List ℕ) → i < length s → (get_or s i 0 ≡ 10 → ⊥)
    → listed_as (drop i s) i w ≡ pick (spacing (get_or s i 0) (get_or s (i + 1) 0)) (listed_as (drop (i + 1) s) (i + 1) w) (matched (get_or s i 0) w (listed_as (drop (i + 1) s) (i + 1)))
unfolding listed_as
list_at s i w h n = rw (drop-cons s i 0 h, ne_eqb (get_or s i 0) 10 n, after s i, add-one i) refl

-- one byte of it
byte_of : (k : ℕ) → k < 11 → drop k LIST ≡ get_or LIST k 0 ∷ drop (k + 1) LIST
byte_of k h = drop-cons LIST k 0 h ∙ rw (add-one k) refl

twelve : (k : ℕ) → 11 ≤ k → k ≤ 11 → drop k LIST ≡ []
twelve k l h = drop_of_length-le LIST l

-- a byte that goes on, and one that does not
pub list_step_lem : (s : List ℕ) (i k : ℕ) → i < length s → (get_or s i 0 ≡ 10 → ⊥) → k ≤ 11 → list_step (get_or s i 0) (get_or s (i + 1) 0) k ≤ 11
    → listed_as (drop i s) i (drop k LIST) ≡ listed_as (drop (i + 1) s) (i + 1) (drop (list_step (get_or s i 0) (get_or s (i + 1) 0) k) LIST)
list_step_lem s i k h n l =
    let b = get_or s i 0 in let c = get_or s (i + 1) 0 in let K = listed_as (drop (i + 1) s) (i + 1) in
    λ m. list_at s i (drop k LIST) h n ∙
    by_case (λ t. pick t k (pick (leb 11 k) 12 (pick (eqb b (get_or LIST k 0)) (k + 1) 12)) ≤ 11
    → pick t (K (drop k LIST)) (matched b (drop k LIST) K) ≡ K (drop (pick t k (pick (leb 11 k) 12 (pick (eqb b (get_or LIST k 0)) (k + 1) 12))) LIST)) (spacing b c)
    (λ _ _. refl)
    (λ _. by_case (λ t. leb 11 k ≡ t → pick t 12 (pick (eqb b (get_or LIST k 0)) (k + 1) 12) ≤ 11
    → matched b (drop k LIST) K ≡ K (drop (pick t 12 (pick (eqb b (get_or LIST k 0)) (k + 1) 12)) LIST)) (leb 11 k)
    (λ _ _ x. absurd (omega arith))
    (λ _ e. let g = leb-false 11 k e in
    rw (byte_of k g)
    (by_case (λ t. pick t (k + 1) 12 ≤ 11 → pick t (K (drop (k + 1) LIST)) None ≡ K (drop (pick t (k + 1) 12) LIST)) (eqb b (get_or LIST k 0))
    (λ _ _. refl) (λ _ x. absurd (omega arith)))) refl) m

pub list_stop : (s : List ℕ) (i k : ℕ) → i < length s → (get_or s i 0 ≡ 10 → ⊥) → k ≤ 11 → 11 < list_step (get_or s i 0) (get_or s (i + 1) 0) k
    → listed_as (drop i s) i (drop k LIST) ≡ None
list_stop s i k h n l =
    let b = get_or s i 0 in let c = get_or s (i + 1) 0 in let K = listed_as (drop (i + 1) s) (i + 1) in
    λ m. list_at s i (drop k LIST) h n ∙
    by_case (λ t. 11 < pick t k (pick (leb 11 k) 12 (pick (eqb b (get_or LIST k 0)) (k + 1) 12)) → pick t (K (drop k LIST)) (matched b (drop k LIST) K) ≡ None) (spacing b c)
    (λ _ x. absurd (omega arith))
    (λ _. by_case (λ t. leb 11 k ≡ t → 11 < pick t 12 (pick (eqb b (get_or LIST k 0)) (k + 1) 12) → matched b (drop k LIST) K ≡ None) (leb 11 k)
    (λ _ e x. rw (twelve k (leb-true 11 k e) l) refl)
    (λ _ e x. let g = leb-false 11 k e in
    rw (byte_of k g)
    (by_case (λ t. 11 < pick t (k + 1) 12 → pick t (K (drop (k + 1) LIST)) None ≡ None) (eqb b (get_or LIST k 0)) (λ _ y. absurd (omega arith)) (λ _ _. refl) x)) refl) m

-- where the line ends
pub ended_full : (k i : ℕ) → k ≡ 11 → Some i ≡ ended (drop k LIST) i
ended_full k i e = rw e refl

pub ended_short : (k i : ℕ) → k ≤ 11 → (k ≡ 11 → ⊥) → None ≡ ended (drop k LIST) i
ended_short k i l n = let g : k < 11 = omega (arith, n) in rw (byte_of k g) refl

pub ended_in : (w : List ℕ) (i b : ℕ) → i ≤ b → ListedWithin b (ended w i)
ended_in [] i b h = h
ended_in (c ∷ w) i b h = tt

-- the text of a record is as long as its places say
pub text_length : (s : List ℕ) (t : Span) → Within (length s) t → length (text_in s t) ≡ t.to - t.from
text_length s t h =
    let low = h.low in let high = h.high in
    length-take-le (t.to - t.from) (drop t.from s) (omega (arith, length-drop t.from s))
