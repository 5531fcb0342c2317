-- States of the code within a line, one difference more, and the DUP of one. No place of the code is named here. Assumes nothing.
use mathlib.Core.Path.{◌≡◌, refl}
use mathlib.Core.List.{List, [], ◌∷◌, map}
use Prim.Native.Nat.{ℕ, ◌+◌, ◌*◌, ◌≤◌, ◌<◌}
use native.Mathlib.Omega.{arith}
use lib.Dec.{leb}
use lib.IntN.{ℤ}
use lib.ListN.{set}
use lib.Seq.{sets}
use Rattle.table_spec.specs.Frame.{entry_for}
use Rattle.table_spec.specs.Values.{by, times, By, copies}
use Rattle.table_numbers.specs.Numbers.{Token}
use Rattle.table_ordinates.specs.Reach.{shifted_to}
use Rattle.table_ordinates.proofs.Moves.{Shifts, shift_some, copies_length, steps_last}
use Rattle.table_value.specs.States.{dif, dup_dif, going, Went}
use Rattle.table_value.specs.declared.Cur.{Cur}
use Rattle.table_value.proofs.Turns.{value_adds, sits_next}
use Rattle.table_value.proofs.Walks.{clear_then, gone_gone, no_want}
use Rattle.table_value.proofs.Meanings.{dif_adds, repeats, dup_steps}

-- one difference more
pub went_on : {N : ℕ} {s : List ℕ} {c : Cur} (b : Cur) {out mid : List ℤ} (out' : List ℤ) {v j : ℕ} (e u : ℕ) → Went N s c b out mid → 0 < b.q → 32 ≤ e → e < 64
    → v < 10000000000 → Token s b.at (by (leb 48 e) v) j → b.k < N → u ≡ shifted_to (leb 48 e) v b.q → (u ≡ 0 → ⊥) → out' ≡ set mid b.k (entry_for u)
    → Went N s c (record { at = j; k = b.k + 1; q = u; want = b.want; step = v; form = e }) out out'
went_on {N} {s} {c} b {out} {mid} out' {v} {j} e u g o l h vs t k d n m =
    let z = shift_some (leb 48 e) v b.q u d n in
    let low = g.low in let tl = t.low in
    record {
      low = omega arith;
      clear = clear_then s g.clear t.clear;
      sits = sits_next t (b.k + 1) u b.want v e z.high vs (omega arith);
      law = λ p w x. gone_gone N s c.at c.k p w out mid b (g.law p w x) out' _
          (λ y i hold. value_adds N s t b.k y i (u ∷ []) (By (leb 48 e) v) mid out' _ (dif_adds (leb 48 e) v u hold (λ r. omega arith) z) (omega arith) refl refl
          (rw (no_want hold o) (going (dif l h z.low))) m);
    }

-- the DUP of a difference
pub went_dup : {N : ℕ} {s : List ℕ} {c : Cur} (b : Cur) {out mid : List ℤ} (out' : List ℤ) {n j u : ℕ} → Went N s c b out mid → 0 < b.q → 32 ≤ b.form → 1 ≤ n
    → Token s b.at (times (n + 1)) j → b.k + n ≤ N → Shifts (leb 48 b.form) (b.step * n) b.q u
    → out' ≡ sets mid b.k (map entry_for (copies n (By (leb 48 b.form) b.step) b.q))
    → Went N s c (record { at = j; k = b.k + n; q = u; want = b.want; step = 0; form = 1 }) out out'
went_dup {N} {s} {c} b {out} {mid} out' {n} {j} {u} g o l m t k z e =
    let low = g.low in let tl = t.low in let x = copies_length n (By (leb 48 b.form) b.step) b.q in
    record {
      low = omega arith;
      clear = clear_then s g.clear t.clear;
      sits = sits_next t (b.k + n) u b.want 0 1 z.high (omega arith) (omega arith);
      law = λ p w y. gone_gone N s c.at c.k p w out mid b (g.law p w y) out' _
          (λ y i hold. let r = repeats n hold l in value_adds N s t b.k y i _ _ mid out' _ (dup_steps n m g.sits.small r z) (omega arith) refl (omega arith)
          (rw (r.before, steps_last (leb 48 b.form) b.step n b.q, ← z.is, no_want hold o) (going (dup_dif z.low))) e);
    }
