-- What the writing of lines needs. No place of the code is named here. Assumes nothing.
use mathlib.Core.Path.{◌≡◌, refl, ap, ◌∙◌}
use mathlib.Core.Bool.{Bool, true, false}
use mathlib.Core.List.{List, [], ◌∷◌, ◌++◌}
use Prim.Native.Nat.{ℕ, ◌+◌, ◌-◌, ◌^◌, ◌≤◌, ◌<◌}
use native.Mathlib.Omega.{arith}
use lib.ListN.{length, get_or}
use lib.Seq.{sets, length-sets}
use borrow.Author.Tests.{le-leb, lt-leb}
use Rattle.terms.specs.Logic.{pick, no_way}
use Rattle.table_spec.specs.Numerals.{numeral}
use Rattle.table_spec.specs.Groups.{sqz_text, dup_text}
use Rattle.table_spec.specs.Writing.{check, close, lines_of}
use Rattle.text_tokens.specs.declared.Group.{Group}
use Rattle.text_openings.specs.declared.State.{State}
use Rattle.table_text.specs.Pieces.{Put, Ahead, number, put_then, put_length, ahead_of}
use Rattle.text_tokens.specs.Tokens.{Found, group_at}
use Rattle.text_openings.specs.Lines.{from, next_state, after, opening, start, Wrote, NewLine, Going}
use Rattle.text_openings.proofs.TextSteps.{from_fits, from_break, from_end, lines_start}
use Rattle.table_spec.specs.declared.Style.TheVariants.{Difdup}

-- ---- the start of a line, and the last line

pub sqz_up : (u : ℕ) → 2147483648 ≤ u → sqz_text u ≡ number 64 (u - 2147483648)
unfolding sqz_text numeral number
sqz_up u h = rw (le-leb 2147483648 u h) refl

pub sqz_down : (u : ℕ) → u < 2147483648 → sqz_text u ≡ number 96 (2147483648 - u)
unfolding sqz_text numeral number
sqz_down u h = rw (lt-leb 2147483648 u h) refl

module _ (hd : ℕ → List ℕ) (i p : ℕ) where
  pub check_is : check Difdup hd i p ≡ hd (i - 1) ++ sqz_text p
  unfolding check
  check_is = refl

  pub opening_dif : (dif : Bool) → dif ≡ true → opening hd dif i p ≡ check Difdup hd i p
  opening_dif dif e = rw e refl

  pub opening_not : (dif : Bool) → dif ≡ false → opening hd dif i p ≡ hd i
  opening_not dif e = rw e refl

  pub close_dif : (dif : Bool) → dif ≡ true → close Difdup hd dif i p ≡ check Difdup hd i p ++ 13 ∷ 10 ∷ []
  unfolding close
  close_dif dif e = rw e refl

  pub close_not : (dif : Bool) → dif ≡ false → close Difdup hd dif i p ≡ []
  unfolding close
  close_not dif e = rw e refl

-- the start of a new line
pub new_line : (hd : ℕ → List ℕ) (s : State) {o o₁ o₂ : List ℕ} {a b : ℕ} → Put o s.at o₁ a (13 ∷ 10 ∷ []) → Put o₁ a o₂ b (opening hd s.dif s.given s.last) → b ≤ a + 25
    → (last : ℕ) (dif : Bool) → last ≡ pick s.dif s.last 0 → dif ≡ s.dif → NewLine hd s o o₂ (record { given = s.given; at = b; column = b - a; last = last; dif = dif })
new_line hd s {a = a} {b = b} u v m last dif e d =
    let n = u.next in
    let c : a ≡ s.at + 2 = omega arith in
    record { is = rw (e, d, c) refl; put = put_then u v; most = omega arith; column_most = omega arith }

-- ---- a group

module _ (hd : ℕ → List ℕ) (ys : List ℕ) where
  pub filled : (i p at column last : ℕ) (g : Group) (o o' : List ℕ) → Found ys i p g → o' ≡ sets o at (number g.base g.size ++ dup_text g.more)
      → last ≡ get_or ys (i + g.more) 0 → last < 4294967296 → column ≤ at
      → Wrote hd ys i at (after hd ys i p column) o o' (record { given = i + g.more + 1; at = at + g.width; column = column + g.width; last = last; dif = g.dif }) × (at + g.width ≤ at + 20)
  unfolding after from
  filled i p at column last g o o' h e f b l =
      let q : Put o at o' (at + length (group_at ys i p)) (group_at ys i p) = record { next = refl; stored = e ∙ rw h.text refl } in
      let inside = h.inside in let slim = h.slim in (
        record {
          law = λ x n a. rw (f, h.more_is, h.width_is, h.dif_is) (ahead_of (from hd ys (next_state hd ys i p 0 column)) q a);
          same = ap length e ∙ length-sets o at (number g.base g.size ++ dup_text g.more);
          on = omega arith;
          inside = omega arith;
          most = omega arith;
          column_most = omega arith;
          small = b;
        },
        omega arith,
      )

  -- ---- a turn

  wrote_as : {i at : ℕ} {o o' : List ℕ} {s : State} (t t' : List ℕ) → t ≡ t' → Wrote hd ys i at t' o o' s → Wrote hd ys i at t o o' s
  wrote_as t t' e w = rw e w

  -- the column of a new line
  new_column : {o o' : List ℕ} (s t : State) → NewLine hd s o o' t → t.column ≡ length (opening hd s.dif s.given s.last)
  new_column s t v = let n = v.put.next in ap (λ (x : State). x.column) v.is ∙ omega arith

  -- what is left where the next group does not fit
  pub left_break : {o o' : List ℕ} (s t : State) (q : ℕ) → s.given < length ys → 80 < s.column + length (group_at ys s.given s.last) → q ≡ pick s.dif s.last 0
      → NewLine hd s o o' t → from hd ys s ≡ (13 ∷ 10 ∷ opening hd s.dif s.given s.last) ++ after hd ys s.given q t.column
  left_break s t q l w f v = from_break hd ys s l w ∙ rw (f, new_column s t v) refl

  module _ (s : State) (g : Group) (inside : s.given < length ys) (h : Found ys s.given s.last g) where
    pub turn_fits : {o o' : List ℕ} {r : State} → s.column + g.width ≤ 80 → Wrote hd ys s.given s.at (after hd ys s.given s.last s.column) o o' r
        → Wrote hd ys s.given s.at (from hd ys s) o o' r
    turn_fits l w = let width = h.width_is in wrote_as (from hd ys s) (after hd ys s.given s.last s.column) (from_fits hd ys s inside (omega arith)) w

    pub turn_breaks : {o o₂ o₃ : List ℕ} {t r : State} (q : ℕ) → 80 < s.column + g.width → q ≡ pick s.dif s.last 0 → NewLine hd s o o₂ t
        → Wrote hd ys s.given t.at (after hd ys s.given q t.column) o₂ o₃ r → r.at ≤ t.at + 20 → Wrote hd ys s.given s.at (from hd ys s) o o₃ r
    turn_breaks {o = o} {t = t} q l f v w z =
        let width = h.width_is in
        let e = left_break s t q inside (omega arith) f v in
        let put = v.put in let most = v.most in let on = w.on in
        record {
          law = λ x c k. w.law x c (ahead_of (after hd ys s.given q t.column) put (rw e at k));
          same = w.same ∙ put_length put;
          on = w.on;
          inside = w.inside;
          most = omega arith;
          column_most = w.column_most;
          small = w.small;
        }

  -- ---- the whole

  pub starts : (o : List ℕ) (s : State) (n : ℕ) → s ≡ start n → n ≤ 15 → Going hd ys o s o s s.given
  starts o s n e h = rw e (begun o n h)
    where
      begun : (o : List ℕ) (n : ℕ) → n ≤ 15 → Going hd ys o (start n) o (start n) 0
      begun o n h =
          record {
            is = refl;
            law = λ x m r. r;
            same = refl;
            inside = omega arith;
            most = omega arith;
            column_most = omega arith;
            started = record { some = λ e. no_way e; small = omega arith };
          }

  pub going_near : {o₀ o : List ℕ} {s₀ s : State} {i : ℕ} → Going hd ys o₀ s₀ o s i → length ys ≤ 65536 → s.at < 2 ^ 56
  going_near g l = let most = g.most in let inside = g.inside in omega arith

  pub goes : {o₀ o o' : List ℕ} {s₀ s r : State} {i : ℕ} → Going hd ys o₀ s₀ o s i → Wrote hd ys s.given s.at (from hd ys s) o o' r → Going hd ys o₀ s₀ o' r r.given
  goes g w =
      let on = w.on in let most = w.most in let most₀ = g.most in
      record {
        is = refl;
        law = λ x n q. w.law x n (g.law x n q);
        same = w.same ∙ g.same;
        inside = w.inside;
        most = omega arith;
        column_most = w.column_most;
        started = record { some = λ _. omega arith; small = w.small };
      }

  done : {x o o' : List ℕ} {n at r : ℕ} {g : List ℕ} → Ahead x n o at g → Put o at o' r g → (r ≡ n) × (o' ≡ x)
  done a b = (b.next ∙ a.ends, b.stored ∙ a.whole)

  again_as : {x o : List ℕ} {n at : ℕ} {t t' : List ℕ} → t ≡ t' → Ahead x n o at t → Ahead x n o at t'
  again_as e r = rw e at r

  pub finish : {o o₁ o₃ o₅ : List ℕ} {st r i : ℕ} {s₀ s : State} (n : ℕ) → 0 < length ys → s₀ ≡ start st → st ≤ 15 → Put o 0 o₁ st (hd 0) → Going hd ys o₁ s₀ o₃ s i
      → length ys ≤ i → length ys ≡ n → Put o₃ s.at o₅ r (13 ∷ 10 ∷ close Difdup hd s.dif n s.last) → Put o 0 o₅ r (lines_of Difdup hd ys)
  finish {o = o} {o₁ = o₁} {o₃ = o₃} {st = st} {i = i} {s = s} n l q b h g₀ k m v =
      let g : Going hd ys o₁ (start st) o₃ s i = rw q at g₀ in
      let all = lines_of Difdup hd ys in
      let a : Ahead (sets o 0 all) (0 + length all) o 0 all = record { whole = refl; ends = refl } in
      let t : all ≡ hd 0 ++ from hd ys (start st) = lines_start hd ys st l (omega (arith, h.next)) (omega arith) in
      let d = g.law (sets o 0 all) (0 + length all) (ahead_of (from hd ys (start st)) h (again_as t a)) in
      let is = g.is in let inside = g.inside in
      let j : s.given ≡ n = omega arith in
      let f : from hd ys s ≡ 13 ∷ 10 ∷ close Difdup hd s.dif n s.last = from_end hd ys s (omega arith) ∙ rw j refl in
      let y = done (again_as f d) v in
      record { next = y.0; stored = y.1 }
