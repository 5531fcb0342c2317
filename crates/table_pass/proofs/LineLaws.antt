-- One line: from its head, its check and its values to the state after it. No place of the code is named here. Assumes nothing.
use mathlib.Core.Path.{◌≡◌, refl, sym, ◌∙◌}
use mathlib.Core.Bool.{Bool, true, false}
use mathlib.Core.List.{List}
use Prim.Native.Nat.{ℕ, ◌≤◌, ◌<◌}
use native.Mathlib.Omega.{arith}
use lib.IntN.{ℤ}
use Rattle.terms.specs.Logic.{pick, no_way}
use Rattle.table_spec.specs.Frame.{passes}
use Rattle.table_spec.specs.Values.{Spot, first, after, index}
use Rattle.table_spec.specs.Reading.{fresh, inner, bare, dif_before, checked, judge}
use Rattle.table_lines.specs.Seen.{seen, here}
use Rattle.table_lines.specs.Heads.{Topped, Headed}
use Rattle.table_value.specs.LineValues.{judged, line_says, line_judge}
use Rattle.table_values.specs.Lines.{last_at, Lined}
use Rattle.table_value.specs.States.{Holds, opening, checking}
use Rattle.table_values.specs.declared.Row.{Row}
use Rattle.frame.specs.declared.Frame.{Frame}
use Rattle.table_pass.specs.Rows.{frame_rules, Between, LineSays}
use Rattle.std.specs.Prelude.{None, Result, Ok, Err}
use Rattle.terms.specs.declared.Fault.{Fault}
use Rattle.terms.specs.Refusals.{fault_at}

-- ---- how the states fit together

-- at a line's start: what the first value must equal
pub line_start : (d : Bool) (p q : ℕ) → (d ≡ true → (p ≡ q) × (0 < q)) → Holds 0 (pick d q 0) 0 0 p (first d)
line_start true p q f = let z = f refl in rw z.0 (checking z.1)
line_start false p q f = opening

-- at a line's end: the last ordinate and its form, as the values kept them
line_end_state : {r : Row} (p : ℕ) (w : Spot) → r.q ≡ last_at w p → r.dif ≡ dif_before w → (r.dif ≡ true → 0 < r.q) → Between r p w
line_end_state p (first c) e f g = record { form = sym f; last = λ x. no_way (sym f ∙ x) }
line_end_state p (after h) e f g = record { form = sym f; last = λ x. (sym e, g x) }

-- ---- the head

module _ (fr : Frame) (s : List ℕ) (r : Row) (at : ℕ) where
  pub line_four : Headed s at None → (out out' : List ℤ) → LineSays (frame_rules fr) s r at out out' (Err (fault_at 4 at))
  unfolding judge
  line_four h out out' p w b = rw h refl

  module _ {h u j : ℕ} (t : Topped s at h u j) where
    pub bare_here : bare (here s j) ≡ bare (seen s j (inner false))
    bare_here = rw t.clear refl

    line_checked : (p : ℕ) (w : Spot) → Between r p w → judge (frame_rules fr) (seen s at fresh) r.k p w
        ≡ checked (frame_rules fr) (λ c. judge (frame_rules fr) (seen s j (inner false)) r.k p (first c)) at h u (bare (seen s j (inner false))) r.k r.dif
    unfolding judge
    line_checked p w b = rw (t.law, b.form) refl

    pub line_six : passes fr.first fr.last fr.points h u (index r.dif r.k) ≡ false → (out out' : List ℤ) → LineSays (frame_rules fr) s r at out out' (Err (fault_at 6 at))
    unfolding checked
    line_six e out out' p w b = line_checked p w b ∙ rw e refl

    module _ (e : passes fr.first fr.last fr.points h u (index r.dif r.k) ≡ true) where
      pub line_seven : bare (here s j) ≡ true → (out out' : List ℤ) → LineSays (frame_rules fr) s r at out out' (Err (fault_at 7 at))
      unfolding checked
      line_seven g out out' p w b = line_checked p w b ∙ rw (e, sym bare_here ∙ g) refl

      -- ---- the values

      module _ (g : bare (here s j) ≡ false) where
        line_opened : (p : ℕ) (w : Spot) → Between r p w → judge (frame_rules fr) (seen s at fresh) r.k p w ≡ judge (frame_rules fr) (here s j) r.k p (first r.dif)
        unfolding checked
        line_opened p w b = line_checked p w b ∙ rw (e, sym bare_here ∙ g, t.clear) refl

        module _ {want : ℕ} (z : want ≡ pick r.dif r.q 0) where
          line_starts : (p : ℕ) (w : Spot) → Between r p w → Holds 0 want 0 0 p (first r.dif)
          line_starts p w b = rw z (line_start r.dif p r.q b.last)

          -- reading on from the head is what the values say, and then what is left
          line_valued : (p : ℕ) (w : Spot) → Between r p w → judge (frame_rules fr) (seen s at fresh) r.k p w
              ≡ judged (frame_rules fr) r.k (line_says fr.points (here s j) r.k p (first r.dif))
          line_valued p w b = line_opened p w b ∙ line_judge (frame_rules fr) (here s j) r.k p (first r.dif)

          -- whatever the values answer
          pub line_read : (out out' : List ℤ) (x : Result Row Fault) → Lined fr.points s j r.k want out out' x → LineSays (frame_rules fr) s r at out out' x
          unfolding judge
          line_read out out' (Err x) l = λ p w b. line_valued p w b ∙ rw (l p (first r.dif) (line_starts p w b)).law refl
          line_read out out' (Ok n) l =
              let a = t.low in let x = l.low in (
                omega arith,
                record { high = l.high; small = l.small; few = l.few },
                λ p w b.
                    let v = l.done p (first r.dif) (line_starts p w b) in
                    record {
                      points = v.points;
                      ordinate = v.ordinate;
                      spot = v.spot;
                      between = line_end_state v.ordinate v.spot v.last v.form v.some;
                      count = v.count;
                      stored = v.stored;
                      law = line_valued p w b ∙ rw (v.law, v.count) refl;
                    },
              )

pub index_small : (d : Bool) (k : ℕ) {N : ℕ} → N ≤ 65536 → k ≤ N → index d k ≤ 65536
index_small true k l h = omega arith
index_small false k l h = omega arith
