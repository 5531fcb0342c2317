-- What the counting of groups needs. No place of the code is named here. Assumes nothing.
use mathlib.Core.Path.{◌≡◌, refl, sym, ap, ◌∙◌}
use mathlib.Core.Bool.{Bool, true, false}
use mathlib.Core.List.{List}
use Prim.Native.Nat.{ℕ, ◌+◌, ◌-◌, ◌≤◌, ◌<◌}
use native.Mathlib.Omega.{arith}
use lib.Dec.{ltb}
use lib.ListN.{length, get_or, drop}
use borrow.Author.Tests.{ltb-true, ltb-false}
use Rattle.terms.specs.Logic.{pick, by_case}
use Rattle.text_tokens.specs.declared.Group.{Group}
use Rattle.text_openings.specs.declared.State.{State}
use Rattle.table_text.specs.Pieces.{Ahead, ahead_of, put_length, sets_past}
use Rattle.text_tokens.specs.Tokens.{Found}
use Rattle.text_openings.specs.Lines.{from, after, line_state, Wrote, NewLine, Counted, Full}
use Rattle.text_openings.proofs.TextSteps.{from_fits}
use Rattle.table_write_law.specs.Lengths.{group_any}
use Rattle.text_openings.proofs.LineSteps.{left_break}

-- ---- counting

module _ (ys : List ℕ) where
  pub counted_near : {s r : State} → Counted ys s r → length ys ≤ 65536 → r.at ≤ s.at + 1310720
  counted_near c l = let most = c.most in let inside = c.inside in omega arith

  pub full_here : (s r : State) (g : Group) → Counted ys s r → Found ys r.given r.last g → 80 < r.column + g.width → Full ys s r
  full_here s r g c h l =
      let width = h.width_is in let slim = h.slim in
      record { breaks = λ _. omega arith; some = λ i k. ahead k }
    where
      ahead : s.column ≤ 60 → s.given < r.given
      ahead k =
          let slim = h.slim in let on = c.on in let most = c.most in let line = c.line in let later = c.later in
          by_case (λ _. s.given < r.given) (ltb s.given r.given) (λ e. ltb-true s.given r.given e)
          (λ e. let f = ltb-false s.given r.given e in absurd (omega arith))

  pub full_end : (s r : State) → length ys ≤ r.given → Full ys s r
  full_end s r h = record { breaks = λ l. absurd (omega arith); some = λ i k. omega arith }

-- ---- what was counted, as a turn of the pass

pick_small : (b : Bool) (p : ℕ) → p < 4294967296 → pick b p 0 < 4294967296
pick_small true p h = h
pick_small false p h = omega arith

module _ (hd : ℕ → List ℕ) (ys : List ℕ) {s t : State} (c : Counted ys s t) where
  -- nothing is stored past the end
  past : (x : List ℕ) (n : ℕ) (o : List ℕ) → length o ≤ s.at → Ahead x n o s.at (from hd ys s) → Ahead x n o t.at (from hd ys t)
  past x n o l a =
      let later = c.later in
      record {
        whole = sets_past o t.at (from hd ys t) (omega arith) ∙ sym (sets_past o s.at (from hd ys s) l) ∙ a.whole;
        ends = c.law hd ∙ a.ends;
      }

  pub counted_all : (o : List ℕ) → length o ≤ s.at → s.given < t.given → Wrote hd ys s.given s.at (from hd ys s) o o t
  counted_all o l h =
      let most = c.most in
      record {
        law = λ x n a. past x n o l a;
        same = refl;
        on = h;
        inside = c.inside;
        most = omega arith;
        column_most = c.column_most;
        small = c.started.small;
      }

  -- a new line after them
  module _ {o o' : List ℕ} {r : State} (b : t.given < length ys) (f : Full ys s t) (v : NewLine hd t o o' r) where
    pub line_short : r.column ≤ 60
    line_short = let most = v.most in ap_le v.is (omega arith)
      where
        ap_le : r ≡ line_state t r.at → r.at - (t.at + 2) ≤ 60 → r.column ≤ 60
        ap_le e h = omega (arith, ap (λ (x : State). x.column) e)

    pub counted_line : length o ≤ s.at → s.given < length ys → s.column ≤ 60 → Wrote hd ys s.given s.at (from hd ys s) o o' r
    counted_line l i k =
        let some = f.some i k in
        let given = ap (λ (x : State). x.given) v.is in let column = ap (λ (x : State). x.column) v.is in
        let most = c.most in let most₀ = v.most in
        record {
          law = λ x n a. line_law x n (past x n o l a);
          same = put_length v.put;
          on = omega arith;
          inside = omega arith;
          most = omega arith;
          column_most = omega arith;
          small = rw (ap (λ (x : State). x.last) v.is) (pick_small t.dif t.last c.started.small);
        }
      where
        line_law : (x : List ℕ) (n : ℕ) → Ahead x n o t.at (from hd ys t) → Ahead x n o' r.at (from hd ys r)
        line_law x n a =
            let q = pick t.dif t.last 0 in
            let given = ap (λ (x : State). x.given) v.is in
            let last = ap (λ (x : State). x.last) v.is in
            let short = line_short in
            let e = left_break hd ys t r q b (f.breaks b) refl v in
            let k : from hd ys r ≡ after hd ys r.given r.last r.column =
            from_fits hd ys r (omega arith) (omega (arith, group_any r.last (get_or ys r.given 0) (drop (r.given + 1) ys))) in
            let z : Ahead x n o' r.at (after hd ys t.given q r.column) = ahead_of (after hd ys t.given q r.column) v.put (rw e at a) in
            rw (k, given, last) z
