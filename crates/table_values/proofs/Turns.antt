-- What a token that is no value does to the state of reading, and the state at a line's end. No place of the code is named here. Assumes nothing.
use mathlib.Core.Path.{◌≡◌, refl, sym, ap, ◌∙◌}
use mathlib.Core.Bool.{true}
use mathlib.Core.List.{List, [], append-nil}
use Prim.Native.Nat.{ℕ, ◌≤◌, ◌<◌}
use native.Mathlib.Omega.{arith}
use lib.Dec.{ltb}
use lib.IntN.{ℤ}
use borrow.Author.Tests.{ne_eqb, le-leb, ltb-true, ltb-false}
use Rattle.terms.specs.Logic.{by_case, no_way}
use Rattle.alphabet_spec.specs.Entries.{entry_at}
use Rattle.table_spec.specs.Values.{Form, is_dif, Spot}
use Rattle.table_spec.specs.Reading.{fault, line, fresh, dif_before}
use Rattle.table_lines.specs.Seen.{seen, here}
use Rattle.table_lines.specs.Ends.{Blanked}
use Rattle.table_value.specs.LineValues.{broken, given, line_says}
use Rattle.table_values.specs.Lines.{dif_form, row_after, last_at, LineDone, LineBroken}
use Rattle.table_value.specs.States.{Codes, own, gap, dif, dup_not, dup_dif, Holds, opening, checking, going, Gone}
use Rattle.table_value.specs.declared.Cur.{Cur}

-- ---- what says nothing

pub fault_token : (N : ℕ) (s : List ℕ) (at k p : ℕ) (w : Spot) (n : ℕ) → here s at ≡ fault n at → line_says N (here s at) k p w ≡ broken [] n at
unfolding line_says
fault_token N s at k p w n h = ap (λ x. line_says N x k p w) h

pub blank_moves : (s : List ℕ) (at e j : ℕ) → e ≡ entry_at s at → e ≡ 112 → Blanked s at j → at < j
blank_moves s at e j g h b =
    by_case (λ t. ltb at j ≡ t → at < j) (ltb at j) (λ _ x. ltb-true at j x)
    (λ _ x. let y = ltb-false at j x in let z = b.low in let i : j ≡ at = omega arith in absurd (b.stops (ap (entry_at s) i ∙ sym g ∙ h))) refl

-- ---- one after the other

-- the form of the last value, at a line's end
dif_high : (e : ℕ) → 32 ≤ e → dif_form e ≡ true
dif_high e l = rw (ne_eqb e 1 (λ x. omega arith), le-leb 32 e l) refl

form_end : {e d q : ℕ} {f : Form} → Codes e d q f → (dif_form e ≡ is_dif f) × (dif_form e ≡ true → 0 < q)
form_end own = (refl, λ x. no_way x)
form_end gap = (refl, λ x. no_way x)
form_end (dif {e = e} a b c) = (dif_high e a, λ x. c)
form_end dup_not = (refl, λ x. no_way x)
form_end (dup_dif c) = (refl, λ x. c)

spot_end : {q want d e p : ℕ} {w : Spot} → Holds q want d e p w → (q ≡ last_at w p) × (dif_form e ≡ dif_before w) × (dif_form e ≡ true → 0 < q)
spot_end opening = (refl, refl, λ x. no_way x)
spot_end (checking h) = (refl, refl, λ x. no_way x)
spot_end (going h) = let z = form_end h in (refl, z.0, z.1)

module _ (N : ℕ) (s : List ℕ) (at k p : ℕ) (w : Spot) (out mid : List ℤ) (b : Cur) (g : Gone N s at k p w out mid b) where
  pub gone_done : (j : ℕ) → here s b.at ≡ line (seen s j fresh) → LineDone N s at k p w out mid (row_after b j)
  unfolding line_says given
  gone_done j e =
      let z = spot_end g.holds in
      record {
        points = g.points;
        ordinate = g.ordinate;
        spot = g.spot;
        law = g.law ∙ rw (e, append-nil g.points) refl;
        stored = g.stored;
        count = g.count;
        last = z.0;
        form = z.1;
        some = z.2;
      }

  pub gone_broken : (n a : ℕ) → ((y : ℕ) (x : Spot) → Holds b.q b.want b.step b.form y x → line_says N (here s b.at) b.k y x ≡ broken [] n a)
      → LineBroken N s at k p w out mid n a
  unfolding given
  gone_broken n a f = record { points = g.points; law = g.law ∙ rw (f g.ordinate g.spot g.holds, append-nil g.points) refl; stored = g.stored }
