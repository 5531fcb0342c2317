-- States of the code within a line, one after the other, and past blanks. No place of the code is named here. Assumes nothing.
use mathlib.Core.Path.{◌≡◌, refl, ap, ◌∙◌}
use mathlib.Core.List.{List, [], ◌++◌}
use Prim.Native.Nat.{ℕ, ◌<◌}
use native.Mathlib.Omega.{arith}
use lib.Dec.{ltb}
use lib.IntN.{ℤ}
use lib.ListN.{length-append}
use borrow.Author.Tests.{ltb-true, ltb-false}
use Rattle.terms.specs.Logic.{by_case}
use Rattle.alphabet_spec.specs.Entries.{entry_at}
use Rattle.table_spec.specs.Values.{Spot}
use Rattle.table_lines.specs.Seen.{here}
use Rattle.table_lines.specs.Ends.{Blanked}
use Rattle.table_numbers.specs.Numbers.{Clear}
use Rattle.table_value.specs.LineValues.{given, line_says, given_none, given_given}
use Rattle.table_value.specs.States.{Holds, opening, checking, going, Sits, Gone, Went}
use Rattle.table_value.specs.declared.Cur.{Cur}
use Rattle.table_value.proofs.Turns.{stored_then}

-- ---- one after the other

-- a state that has moved over what says nothing
pub gone_same : (N : ℕ) (s : List ℕ) (at p : ℕ) (w : Spot) (out : List ℤ) (r : Cur) → Holds r.q r.want r.step r.form p w → here s at ≡ here s r.at
    → Gone N s at r.k p w out out r
gone_same N s at p w out r h e =
    record { points = []; ordinate = p; spot = w; holds = h; count = omega arith; stored = refl; law = ap (λ x. line_says N x r.k p w) e ∙ given_none _ }

pub clear_then : (s : List ℕ) {i m j : ℕ} → Clear s i m → Clear s m j → Clear s i j
clear_then s {i} {m} {j} f g k l h = by_case (λ t. ltb k m ≡ t → entry_at s k < 160) (ltb k m) (λ _ x. f k l (ltb-true k m x)) (λ _ x. g k (ltb-false k m x) h) refl

module _ (N : ℕ) (s : List ℕ) (at k p : ℕ) (w : Spot) (out mid : List ℤ) (b : Cur) (g : Gone N s at k p w out mid b) where
  pub gone_gone : (out' : List ℤ) (r : Cur) → ((y : ℕ) (x : Spot) → Holds b.q b.want b.step b.form y x → Gone N s b.at b.k y x mid out' r) → Gone N s at k p w out out' r
  gone_gone out' r f =
      let z = f g.ordinate g.spot g.holds in let c = g.count in let d = z.count in
      record {
        points = g.points ++ z.points;
        ordinate = z.ordinate;
        spot = z.spot;
        holds = z.holds;
        count = omega (arith, length-append g.points z.points);
        stored = z.stored ∙ rw (g.stored, c) (stored_then g.points z.points out k);
        law = g.law ∙ ap (given g.points) z.law ∙ given_given g.points z.points _;
      }

pub went_went : {N : ℕ} {s : List ℕ} {c b r : Cur} {out mid out' : List ℤ} → Went N s c b out mid → Went N s b r mid out' → Went N s c r out out'
went_went {N} {s} {c} {b} {r} {out} {mid} {out'} g h =
    let x = g.low in let y = h.low in
    record { low = omega arith; clear = clear_then s g.clear h.clear; sits = h.sits; law = λ p w z. gone_gone N s c.at c.k p w out mid b (g.law p w z) out' r h.law }

-- an ordinate is asked for only before a line's first value
pub no_want : {q want d form p : ℕ} {w : Spot} → Holds q want d form p w → 0 < q → want ≡ 0
no_want opening l = refl
no_want (checking h) l = absurd (omega arith)
no_want (going h) l = refl

-- ---- what says nothing

pub went_none : {N : ℕ} {s : List ℕ} (c : Cur) (out : List ℤ) → Sits N s c → Went N s c c out out
went_none c out h = record { low = omega arith; clear = λ k a b. absurd (omega arith); sits = h; law = λ p w g. gone_same _ _ _ p w out c g refl }

pub blank_clear : {s : List ℕ} {at j : ℕ} → Blanked s at j → Clear s at j
blank_clear b k l h = let z = b.all k l h in omega arith

-- past blanks
pub went_over : {N : ℕ} {s : List ℕ} (c : Cur) {j : ℕ} (out : List ℤ) → Sits N s c → Blanked s c.at j
    → Went N s c (record { at = j; k = c.k; q = c.q; want = c.want; step = c.step; form = c.form }) out out
went_over c out h b =
    let l = b.low in let o = h.some in
    record {
      low = b.low;
      clear = blank_clear b;
      sits = record { some = omega arith; high = b.high; small = h.small; size = h.size; few = h.few };
      law = λ p w g. gone_same _ _ _ p w out _ g b.within;
    }
