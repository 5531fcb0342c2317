-- What the writing of values on lines needs. No place of the code is named here. Assumes nothing.
use mathlib.Core.Path.{◌≡◌, refl, sym, ap, ◌∙◌}
use mathlib.Core.List.{List, [], ◌∷◌, ◌++◌}
use Prim.Native.Nat.{ℕ, ◌+◌, ◌-◌, ◌≤◌, ◌<◌}
use native.Mathlib.Omega.{arith}
use native.Mathlib.Numerals.{add-one}
use lib.Dec.{ltb}
use lib.ListN.{length, get_or, drop_of_length-le, length-append}
use lib.Seq.{sets, drop-cons}
use borrow.Author.Tests.{le-leb, lt-leb, lt-ltb, le-ltb, ltb-true, ltb-false}
use Rattle.terms.specs.Logic.{by_case}
use Rattle.table_write_law.specs.Plain.{values}
use Rattle.table_text.specs.Pieces.{Put, Ahead, put_length, ahead_of, sets_past}
use Rattle.text_value_lines.specs.declared.State.{State}
use Rattle.text_value_lines.specs.Lines.{from, lines_left, Going, Opened, Room, Filled, Filling}

-- where nothing is lent, a piece is only measured
pub put_nothing : (o : List ℕ) (at w : ℕ) (g : List ℕ) → length o ≡ 0 → w ≡ length g → Put o at o (at + w) g
put_nothing o at w g e f = record { next = ap (λ (n : ℕ). at + n) f; stored = sym (sets_past o at g (omega arith)) }

again_as : {x o : List ℕ} {n at : ℕ} {t t' : List ℕ} → t ≡ t' → Ahead x n o at t → Ahead x n o at t'
again_as e r = rw e at r

-- ---- what is left, by the next value

module _ (shown : ℕ → List ℕ) (hd : ℕ → List ℕ) (ys : List ℕ) (i : ℕ) where
  abbrev here : List ℕ
  here = shown (get_or ys i 0)

  from_fits : (column : ℕ) → i < length ys → column + length here ≤ 80 → from shown hd ys i column ≡ here ++ from shown hd ys (i + 1) (column + length here)
  unfolding from values
  from_fits column inside l = rw (drop-cons ys i 0 inside, le-leb (column + length here) 80 l, add-one i) refl

  from_breaks : (column : ℕ) → i < length ys → 80 < column + length here
      → from shown hd ys i column ≡ (13 ∷ 10 ∷ []) ++ (hd i ++ (here ++ from shown hd ys (i + 1) (length (hd i) + length here)))
  unfolding from values
  from_breaks column inside l = rw (drop-cons ys i 0 inside, lt-leb (column + length here) 80 l, add-one i) refl

  from_end : (column : ℕ) → length ys ≤ i → from shown hd ys i column ≡ 13 ∷ 10 ∷ []
  unfolding from values
  from_end column h = rw (drop_of_length-le ys h) refl

  left_some : i < length ys → lines_left shown hd ys i ≡ hd i ++ from shown hd ys i (length (hd i))
  unfolding lines_left
  left_some h = rw (lt-ltb i (length ys) h) refl

  left_none : length ys ≤ i → lines_left shown hd ys i ≡ []
  unfolding lines_left
  left_none h = rw (le-ltb i (length ys) h) refl

  -- after a full line come its end and the lines that are left; a value fits on a new line
  line_ends : (column : ℕ) → (i < length ys → 80 < column + length here) → (i < length ys → length (hd i) + length here ≤ 80)
      → from shown hd ys i column ≡ (13 ∷ 10 ∷ []) ++ lines_left shown hd ys i
  line_ends column full fits =
      by_case (λ _. from shown hd ys i column ≡ (13 ∷ 10 ∷ []) ++ lines_left shown hd ys i) (ltb i (length ys))
      (λ e. let l = ltb-true i (length ys) e in
      from_breaks column l (full l) ∙ rw (left_some l, from_fits (length (hd i)) l (fits l)) refl)
      (λ e. let l = ltb-false i (length ys) e in from_end column l ∙ rw (left_none l) refl)

-- ---- the values of a line

module _ (shown : ℕ → List ℕ) (ys : List ℕ) where
  pub filling_starts : (o : List ℕ) (s : State) → Opened (length ys) s → Filling shown ys s.given s.at (s.at - s.column) o o s.given s.at
  filling_starts o s h =
      let column = h.column in let short = h.short in let left = h.left in
      record { law = λ hd x n a. a; same = refl; since = omega arith; inside = omega arith; behind = omega arith; within = omega arith; unmoved = λ _. refl }

  module _ {i₀ at₀ line : ℕ} {o₀ o : List ℕ} {i at : ℕ} (f : Filling shown ys i₀ at₀ line o₀ o i at) where
    -- it is written
    pub filling_more : {w u : ℕ} {o' : List ℕ} → i < length ys → u ≡ get_or ys i 0 → w ≡ length (shown u) → at + w ≤ line + 80 → o' ≡ sets o at (shown u)
        → Filling shown ys i₀ at₀ line o₀ o' (i + 1) (at + w)
    filling_more {w} {u} {o'} l is e k st =
        let behind = f.behind in let since = f.since in
        let e' : w ≡ length (shown (get_or ys i 0)) = e ∙ ap (λ (x : ℕ). length (shown x)) is in
        let p : Put o at o' (at + w) (shown (get_or ys i 0)) = record { next = ap (λ (x : ℕ). at + x) e'; stored = st ∙ ap (λ (x : ℕ). sets o at (shown x)) is } in
        let c : at + w - line ≡ at - line + length (shown (get_or ys i 0)) = omega arith in
        record {
          law = λ hd x n a.
              rw c (ahead_of (from shown hd ys (i + 1) (at - line + length (shown (get_or ys i 0)))) p (again_as (from_fits shown hd ys i (at - line) l (omega arith)) (f.law hd x n a)));
          same = put_length p ∙ f.same;
          since = omega arith;
          inside = omega arith;
          behind = omega arith;
          within = k;
          unmoved = λ z. absurd (omega arith);
        }

  -- the same with nothing lent
  pub filling_counts : {i₀ at₀ line i at w u : ℕ} → Filling shown ys i₀ at₀ line [] [] i at → i < length ys → u ≡ get_or ys i 0 → w ≡ length (shown u) → at + w ≤ line + 80
      → Filling shown ys i₀ at₀ line [] [] (i + 1) (at + w)
  filling_counts {at = at} {u = u} f l is e k = filling_more f l is e k (sym (sets_past [] at (shown u) (omega arith)))

  module _ (s : State) (h : Opened (length ys) s) {o₀ o : List ℕ} {i at : ℕ} (f : Filling shown ys s.given s.at (s.at - s.column) o₀ o i at) where
    column_is : s.at - (s.at - s.column) ≡ s.column
    column_is = let column = h.column in omega arith

    law_is : (hd : ℕ → List ℕ) (x : List ℕ) (n : ℕ) → Ahead x n o₀ s.at (from shown hd ys s.given s.column) → Ahead x n o at (from shown hd ys i (at - (s.at - s.column)))
    law_is hd x n a = f.law hd x n (again_as (ap (λ (k : ℕ). from shown hd ys s.given k) (sym column_is)) a)

    -- the next value is within what is lent
    pub filling_room : {w u : ℕ} → i < length ys → u ≡ get_or ys i 0 → w ≡ length (shown u) → at + w ≤ s.at - s.column + 80 → Room shown ys s (length o₀) → at + w ≤ length o
    filling_room l is e k r =
        let hd = r.heads in
        let lent = r.lent in let same = f.same in let behind = f.behind in
        let column = at - (s.at - s.column) in
        let e' = e ∙ ap (λ (x : ℕ). length (shown x)) is in
        let a = law_is hd (sets o₀ s.at (from shown hd ys s.given s.column)) (s.at + length (from shown hd ys s.given s.column)) (record { whole = refl; ends = refl }) in
        let rest = from shown hd ys (i + 1) (column + length (here shown hd ys i)) in
        omega (arith, e', a.ends, ap length (from_fits shown hd ys i column l (omega (arith, e'))), length-append (here shown hd ys i) rest)

    -- the line is full
    pub filled_full : {w u : ℕ} → u ≡ get_or ys i 0 → w ≡ length (shown u) → w ≤ 12 → s.at - s.column + 80 < at + w
        → Filled shown ys s o₀ o (record { given = i; at = at; column = at - (s.at - s.column) })
    filled_full is e slim k =
        let since = f.since in let behind = f.behind in let within = f.within in let short = h.short in let column = h.column in
        let e' = e ∙ ap (λ (x : ℕ). length (shown x)) is in
        record {
          law = law_is;
          same = f.same;
          on = by_case (λ _. s.given < i) (ltb s.given i) (λ q. ltb-true s.given i q)
              (λ q. let z = ltb-false s.given i q in let t = f.unmoved (omega arith) in absurd (omega arith));
          inside = f.inside;
          most = omega arith;
          full = λ _. omega (arith, e');
        }

    -- no value is left
    pub filled_end : length ys ≤ i → Filled shown ys s o₀ o (record { given = i; at = at; column = at - (s.at - s.column) })
    filled_end k =
        let within = f.within in let left = h.left in
        record { law = law_is; same = f.same; on = omega arith; inside = f.inside; most = omega arith; full = λ l. absurd (omega arith) }

-- ---- the lines

module _ (shown : ℕ → List ℕ) (hd : ℕ → List ℕ) (ys : List ℕ) where
  pub starts : (o : List ℕ) → Going shown hd ys o o 0 0
  starts o = record { law = λ x n a. a; same = refl; inside = omega arith; most = omega arith }

  module _ {o₀ o : List ℕ} {i at : ℕ} (g : Going shown hd ys o₀ o i at) where
    left_is : Ahead (sets o₀ 0 (lines_left shown hd ys 0)) (length (lines_left shown hd ys 0)) o at (lines_left shown hd ys i)
    left_is = g.law _ _ (record { whole = refl; ends = omega arith })

    -- a line with its head, which ends at p
    module _ {o₁ : List ℕ} {p : ℕ} (c : ℕ) (l : i < length ys) (h : Put o at o₁ p (hd i)) (e : p ≡ at + c) where
      column_is_head : c ≡ length (hd i)
      column_is_head = omega (arith, h.next)

      opened_left : (x : List ℕ) (n : ℕ) → Ahead x n o at (lines_left shown hd ys i) → Ahead x n o₁ p (from shown hd ys i c)
      opened_left x n a =
          again_as (ap (λ (k : ℕ). from shown hd ys i k) (sym column_is_head)) (ahead_of (from shown hd ys i (length (hd i))) h (again_as (left_some shown hd ys i l) a))

      pub opens : length ys ≤ 65536 → c ≤ 15 → Opened (length ys) (record { given = i; at = p; column = c })
      opens few short =
          let most = g.most in
          record { few = few; left = l; near = omega arith; column = omega arith; short = short }

      -- what is left of the text is lent
      pub room_left : length (lines_left shown hd ys 0) ≤ length o₀ → Room shown ys (record { given = i; at = p; column = c }) (length o₁)
      room_left few = let b = opened_left _ _ left_is in record { heads = hd; lent = omega (arith, b.ends, put_length h, g.same) }

      -- and so is the end of the line after the values that fit
      pub end_lent : {o₂ : List ℕ} {r : State} → ((k : ℕ) → k < length ys → length (hd k) + length (shown (get_or ys k 0)) ≤ 80) → length (lines_left shown hd ys 0) ≤ length o₀
          → Filled shown ys (record { given = i; at = p; column = c }) o₁ o₂ r → r.at + 2 ≤ length o₂
      end_lent {r = r} fits few f =
          let b = f.law hd _ _ (opened_left _ _ left_is) in
          let e = ap length (line_ends shown hd ys r.given r.column f.full (fits r.given)) in
          omega (arith, b.ends, e, f.same, put_length h, g.same)

      -- the line is written
      pub goes : {o₂ o₃ : List ℕ} {a : ℕ} {r : State} → ((k : ℕ) → k < length ys → length (hd k) + length (shown (get_or ys k 0)) ≤ 80) → c ≤ 15
          → Filled shown ys (record { given = i; at = p; column = c }) o₁ o₂ r → Put o₂ r.at o₃ a (13 ∷ 10 ∷ []) → Going shown hd ys o₀ o₃ r.given a
      goes {r = r} fits short f q =
          let most = g.most in let on = f.on in let far = f.most in let next = q.next in
          record {
            law = λ x n y.
                ahead_of (lines_left shown hd ys r.given) q
                (again_as (line_ends shown hd ys r.given r.column f.full (fits r.given)) (f.law hd x n (opened_left x n (g.law x n y))));
            same = put_length q ∙ f.same ∙ put_length h ∙ g.same;
            inside = f.inside;
            most = omega arith;
          }

    -- all lines are
    pub ends : length ys ≤ i → Put o₀ 0 o at (lines_left shown hd ys 0)
    ends h =
        let y = again_as (left_none shown hd ys i h) left_is in
        record { next = omega (arith, y.ends); stored = y.whole }

  -- the whole text
  pub whole_is : 0 < length ys → hd 0 ++ values shown hd ys 0 (length (hd 0)) ≡ lines_left shown hd ys 0
  unfolding from
  whole_is h = sym (left_some shown hd ys 0 h)
