-- States of the code, one after the other: past blanks, and along a line. No place of the code is named here. Assumes nothing.
use Rattle.terms.specs.declared.Reason.{Reason}
use mathlib.Core.Path.{◌≡◌, sym, subst}
use mathlib.Core.List.{List}
use Prim.Native.Nat.{ℕ}
use native.Mathlib.Omega.{arith}
use lib.IntN.{ℤ}
use Rattle.table_lines.specs.Ends.{Blanked}
use Rattle.table_values.specs.Lines.{placed, row_after, Lined}
use Rattle.table_value.specs.States.{Sits, Went, Stepped}
use Rattle.table_value.specs.declared.Cur.{Cur}
use Rattle.table_value.proofs.Walks.{went_went, went_over}
use Rattle.table_values.proofs.Turns.{gone_done, gone_broken}
use Rattle.std.specs.Prelude.{Ok, Err}
use Rattle.table_value.specs.declared.Step.{Step}
use Rattle.terms.specs.Refusals.{fault_at, reason_number}

-- ---- blanks

pub went_blanks : {N : ℕ} {s : List ℕ} {c : Cur} (r : Cur) (out : List ℤ) → Sits N s c → Blanked s c.at r.at → r ≡ placed c r.at → Went N s c r out out
went_blanks {N} {s} {c} r out h b e = subst (λ (x : Cur). Went N s c x out out) (sym e) (went_over c out h b)

-- ---- a line

pub went_past : {N : ℕ} {s : List ℕ} {c b r : Cur} {out mid : List ℤ} → Went N s c b out mid → Blanked s b.at r.at × (r ≡ placed b r.at) → Went N s c r out mid
went_past g e = went_went g (went_blanks _ _ g.sits e.0 e.1)

-- the state at a line's first value
abbrev pub first_state : ℕ → ℕ → ℕ → Cur
first_state at k want = record { at = at; k = k; q = 0; want = want; step = 0; form = 0 }

module _ {N : ℕ} {s : List ℕ} {at k want : ℕ} {b : Cur} {out mid : List ℤ} (out' : List ℤ) (g : Went N s (first_state at k want) b out mid) where
  pub went_line : {j : ℕ} → Stepped N s b mid out' (Ok (Step.Line j)) → Lined N s at k want out out' (Ok (row_after b j))
  went_line {j} h =
      let x = g.low in let y = h.low in let z = g.sits in let l = h.ends in
      record {
        low = omega arith;
        high = h.high;
        small = z.small;
        few = z.few;
        ends = record { stop = b.at; low = x; clear = g.clear; ends = omega arith; next = h.next };
        done = λ p w v. rw h.same (gone_done N s at k p w out mid b (g.law p w v) j h.law);
      }

  pub went_refused : (n : Reason) → Stepped N s b mid out' (Err n) → Lined N s at k want out out' (Err (fault_at (reason_number n) b.at))
  went_refused n h = λ p w v. rw h.0 (gone_broken N s at k p w out mid b (g.law p w v) (reason_number n) b.at h.1)
