-- Along a run of ordinates of their own: one more, and where it ends. No place of the code is named here. Assumes nothing.
use mathlib.Core.Path.{◌≡◌, refl, sym, subst}
use mathlib.Core.Bool.{Bool}
use mathlib.Core.List.{List}
use mathlib.Core.Logic.{inr, ⊎_elim}
use Prim.Native.Nat.{ℕ, ◌+◌, ◌≤◌, ◌<◌}
use native.Mathlib.Omega.{arith}
use lib.IntN.{ℤ}
use lib.ListN.{set}
use borrow.Author.Tests.{eq-eqb, ne_eqb}
use Rattle.table_spec.specs.Frame.{entry_for}
use Rattle.table_spec.specs.Values.{own, Own, moved}
use Rattle.table_lines.specs.Ends.{Blanked}
use Rattle.table_numbers.specs.Numbers.{Token}
use Rattle.table_ordinates.proofs.Moves.{own_small}
use Rattle.table_value.specs.States.{going, own as codes-own, Sits, Went}
use Rattle.table_value.specs.declared.Cur.{Cur}
use Rattle.table_value.proofs.Turns.{value_adds, sits_next}
use Rattle.table_value.proofs.Meanings.{own_free}
use Rattle.table_value.proofs.Walks.{clear_then, gone_gone, went_none, went_went, went_over}
use Rattle.table_owns.specs.Ways.{reached, Been}

pub went_own : {N : ℕ} {s : List ℕ} {c : Cur} (b : Cur) {out mid : List ℤ} (out' : List ℤ) (m : Bool) {n : Bool} {v j u : ℕ} → Went N s c b out mid → b.want ≡ 0 → v ≤ 2147483647
    → Token s b.at (own m v) j → b.k < N → n ≡ m → u ≡ moved n v 2147483648 → out' ≡ set mid b.k (entry_for u)
    → Went N s c (record { at = j; k = b.k + 1; q = u; want = 0; step = 0; form = 2 }) out out'
went_own {N} {s} {c} b {out} {mid} out' m {v = v} {j} {u} g z l t k f d o =
    let low = g.low in let tl = t.low in let e : u ≡ moved m v 2147483648 = rw f at d in
    record {
      low = omega arith;
      clear = clear_then s g.clear t.clear;
      sits = sits_next t (b.k + 1) u 0 0 2 (rw e (own_small m v l)) (omega arith) (omega arith);
      law = λ p w x. gone_gone N s c.at c.k p w out mid b (g.law p w x) out' _
          (λ y i hold. value_adds N s t b.k y i _ Own mid out' _ (own_free m v hold l z) (omega arith) refl refl (rw e (going codes-own)) (rw e at o));
    }

-- the state so far, whatever it keeps of the last value
pub been_went : {N : ℕ} {s : List ℕ} (c : Cur) {at k q : ℕ} {out mid : List ℤ} → Sits N s c → Been N s c at k q out mid
    → (y : ℕ) × (d : ℕ) × (f : ℕ) × Went N s c (record { at = at; k = k; q = y; want = c.want; step = d; form = f }) out mid
been_went c {q = q} {out} z = ⊎_elim (λ x. (c.q, c.step, c.form, rw (x.0, x.1, x.2) (went_none c out z))) (λ x. (q, 0, 2, x.1))

pub been_from : {N : ℕ} {s : List ℕ} (c : Cur) {at k q : ℕ} {out mid : List ℤ} → Been N s c at k q out mid → c.k ≤ k
been_from c = ⊎_elim (λ x. let y = x.1 in omega arith) (λ x. let y = x.0 in omega arith)

-- where the run ends
pub been_end : {N : ℕ} {s : List ℕ} (c : Cur) {at k q : ℕ} {out mid : List ℤ} → Sits N s c → Been N s c at k q out mid → Went N s c (reached c at k q) out mid
been_end c {k = k} {out = out} z =
    ⊎_elim (λ x. rw (eq-eqb k c.k x.1, x.2) (went_none c out z)) (λ x. let l = x.0 in rw (ne_eqb k c.k (λ e. omega arith)) x.1)

-- one more, blanks before it
pub been_own : {N : ℕ} {s : List ℕ} (c : Cur) {at k q i j u : ℕ} {out mid : List ℤ} (out' : List ℤ) (m : Bool) {n : Bool} {v : ℕ} → Sits N s c → c.want ≡ 0
    → Been N s c at k q out mid → Blanked s at i → v ≤ 2147483647 → Token s i (own m v) j → k < N → n ≡ m → u ≡ moved n v 2147483648 → out' ≡ set mid k (entry_for u)
    → Been N s c j (k + 1) u out out'
been_own {N} {s} c {at} {k} {q} {i} {j} {u} {out} {mid} out' m z w x b l t h f d o =
    let g = (been_went c z x).3 in let y = been_from c x in
    inr (
      omega arith,
      subst (λ (a : ℕ). Went N s c (record { at = j; k = k + 1; q = u; want = a; step = 0; form = 2 }) out out') (sym w)
          (went_own _ out' m (went_went g (went_over _ mid g.sits b)) w l t h f d o),
    )
