-- What an accepted profile shows of its k-th record is the text that the record has in the file, or else on the page.
use Rattle.std.specs.Prelude.{◌≡◌, Bool, true, false, eqb, length, get_or, Option, Some, None, Result, Ok, ⊤}
use Rattle.std.proofs.Math.Path.{refl}
use Rattle.std.proofs.Common.{◌∙◌, not-suc-le-zero, le_of_suc-le-suc}
use mathlib.Core.List.{List, [], ◌∷◌}
use Prim.Native.Nat.{ℕ, zero, suc, ◌*◌, ◌<◌}
use native.Mathlib.Omega.{arith}
use Rattle.terms.specs.Logic.{pick, zero_one}
use Rattle.label_spec.specs.Labels.{from}
use Rattle.label_spec.specs.Records.{record_of, as_record, record_for}
use Rattle.file_spec.specs.declared.FileTable.{FileTable}
use Rattle.profile_spec.specs.declared.Shown.{Shown}
use Rattle.profile_spec.specs.Wanted.{Wanted, wanted, kth}
use Rattle.profile_spec.specs.Profile.{on_page, placed, located, text_at, words, present, records, profiled, numbers, all_numbers, page_text, shown}
use Rattle.profile_law.specs.Fifteen.{long}
use Rattle.profile_law.specs.Titles.{name_untitled, record_after}
use Rattle.profile_law.specs.Plain.{Accepted}
use Rattle.label_spec.specs.declared.Span.{Span}
use Rattle.profile_spec.specs.declared.Unfit.{Unfit}

-- the k-th three of these numbers: whether it is on the page, from, to
abbrev pub shown_at : List ℕ → ℕ → Shown
shown_at ns k = record { page = eqb (get_or ns (3 * k) 0) 1; from = get_or ns (suc (3 * k)) 0; to = get_or ns (suc (suc (3 * k))) 0 }

-- none of the records is absent
module _ (s : List ℕ) (start stop : ℕ) (p : List ℕ) where
  abbrev Standing : List ℕ → Type 0
  Standing w = (x : Shown) × (located s start stop p w ≡ Some x)

  first_stands : (w : List ℕ) (r : Result ⊤ Unfit) (l : Option Shown) → located s start stop p w ≡ l → present l r ≡ Ok tt → Standing w
  unfolding present
  first_stands w r (Some x) e h = (x, e)
  first_stands w r None e h = zero_one cc

  others_stand : (r : Result ⊤ Unfit) (l : Option Shown) → present l r ≡ Ok tt → r ≡ Ok tt
  unfolding present
  others_stand r (Some x) h = h
  others_stand r None h = zero_one cc

  each_stands : (vs : List Wanted) (r : Result ⊤ Unfit) → records s start stop p vs r ≡ Ok tt → (d : Wanted) (k : ℕ) → k < length vs → Standing (get_or vs k d).name
  unfolding records
  each_stands [] r h d k l = absurd (not-suc-le-zero l)
  each_stands (v ∷ vs) r h d zero l = first_stands v.name (records s start stop p vs r) (located s start stop p v.name) refl h
  each_stands (v ∷ vs) r h d (suc k) l = each_stands vs r (others_stand (records s start stop p vs r) (located s start stop p v.name) h) d k (le_of_suc-le-suc l)

  -- the numbers of one record among those of all
  past_three : (l : Option Shown) (ns : List ℕ) (i : ℕ) → get_or (numbers l ns) (suc (suc (suc i))) 0 ≡ get_or ns i 0
  unfolding numbers
  past_three (Some x) ns i = refl
  past_three None ns i = refl

  pub record Three (ns : List ℕ) (i : ℕ) (x : Shown) : Type 0 where
    pub page : get_or ns i 0 ≡ pick x.page 1 0
    pub low : get_or ns (suc i) 0 ≡ x.from
    pub high : get_or ns (suc (suc i)) 0 ≡ x.to

  three_here : (l : Option Shown) (ns : List ℕ) (x : Shown) → l ≡ Some x → Three (numbers l ns) 0 x
  unfolding numbers
  three_here l ns x e = rw e (record { page = refl; low = refl; high = refl })

  three_at : (vs : List Wanted) (d : Wanted) (k : ℕ) → k < length vs → (x : Shown) → located s start stop p (get_or vs k d).name ≡ Some x → (i : ℕ) → i ≡ 3 * k
      → Three (all_numbers s start stop p vs) i x
  unfolding all_numbers
  three_at [] d k l x e i h = absurd (not-suc-le-zero l)
  three_at (v ∷ vs) d zero l x e i h = let z : i ≡ 0 = omega arith in rw z (three_here (located s start stop p v.name) (all_numbers s start stop p vs) x e)
  three_at (v ∷ vs) d (suc k) l x e i h =
      let z : i ≡ suc (suc (suc (3 * k))) = omega arith in
      let t = three_at vs d k (le_of_suc-le-suc l) x e (3 * k) refl in
      let q = past_three (located s start stop p v.name) (all_numbers s start stop p vs) in
      rw z (record { page = q (3 * k) ∙ t.page; low = q (suc (3 * k)) ∙ t.low; high = q (suc (suc (3 * k))) ∙ t.high })

  flag_back : (q : Bool) → eqb (pick q 1 0) 1 ≡ q
  flag_back true = refl
  flag_back false = refl

  text_back : (ns : List ℕ) (k : ℕ) (x : Shown) → Three ns (3 * k) x → text_at s p (shown_at ns k) ≡ text_at s p x
  text_back ns k x t = rw (t.page, t.low, t.high, flag_back x.page) refl

  -- where a record stands, and what is shown of it
  shown_back : (w : List ℕ) (x : Shown) (f g : Option Span) → placed false f (placed true g None) ≡ Some x → on_page p w ≡ g → text_at s p x ≡ shown s p w (as_record f)
  unfolding placed as_record shown page_text
  shown_back w x (Some y) g e h = let z : x ≡ record { page = false; from = y.from; to = y.to } = cc in rw z refl
  shown_back w x None (Some y) e h = let z : x ≡ record { page = true; from = y.from; to = y.to } = cc in rw (z, h) refl
  shown_back w x None None e h = zero_one cc

-- the theorem
pub shown_text : (s p : List ℕ) (room : ℕ) (t : FileTable) (ys ns : List ℕ) → Accepted s p room t ys ns → (k : ℕ) → k < 15
    → text_at s p (shown_at ns k) ≡ shown s p (kth k).name (record_for s (kth k).name)
unfolding profiled located
shown_text s p room t ys ns a k h =
    let l : k < length wanted = rw long h in
    let start = suc a.eq in let stop = a.end in
    let y = each_stands s start stop p wanted (words s start stop p wanted) a.right (record { name = []; words = [] }) k l in
    let n : Three s start stop p ns (3 * k) y.0 = rw a.numbers (three_at s start stop p wanted (record { name = []; words = [] }) k l y.0 y.1 (3 * k) refl) in
    text_back s start stop p ns k y.0 n
    ∙ shown_back s start stop p (kth k).name y.0 (record_of (length s) stop (kth k).name (from s start false)) (on_page p (kth k).name) y.1 refl
    ∙ rw (record_after s a.title a.eq stop a.labels (kth k).name (name_untitled k h)) refl
