-- Along a run of short differences and of DUPs of them. No place of the code is named here. Assumes nothing.
use mathlib.Core.Path.{◌≡◌, refl, ◌∙◌}
use mathlib.Core.Bool.{Bool, true, false}
use mathlib.Core.List.{List, map}
use mathlib.Core.Logic.{◌⊎◌, inl, inr, ⊎_elim}
use Prim.Native.Nat.{ℕ, ◌+◌, ◌-◌, ◌*◌, ◌≤◌, ◌<◌}
use native.Mathlib.Omega.{arith}
use native.Mathlib.Nat.{mul-le-mul_right}
use lib.Dec.{ltb, leb, eqb}
use lib.IntN.{ℤ}
use lib.ListN.{set}
use lib.Seq.{sets}
use borrow.Author.Tests.{lt-ltb, le-ltb, eq-eqb, ne_eqb}
use Rattle.terms.specs.Logic.{pick}
use Rattle.table_spec.specs.Frame.{entry_for}
use Rattle.table_spec.specs.Values.{times, By, copies, moved}
use Rattle.table_numbers.specs.Numbers.{Token}
use Rattle.table_ordinates.specs.Reach.{shifted_to}
use Rattle.table_ordinates.proofs.Moves.{Shifts, in_range_lem, shift_is}
use Rattle.table_value.specs.States.{Sits, Went}
use Rattle.table_value.specs.declared.Cur.{Cur}
use Rattle.table_steps.specs.declared.Way.{Way}
use Rattle.table_shorts.specs.Short.{ShortAt}
use Rattle.table_steps.specs.Ways.{apart, step_after, form_after, reached, Safe, Fare, Been, Onward}
use Rattle.table_value.proofs.Walks.{went_none}
use Rattle.table_steps.proofs.Walks.{went_on, went_dup}

-- ---- differences

-- the ordinate u after a difference from q, both within the range: it is one, and tells the difference's size and sign
record Turned (m : Bool) (v q u : ℕ) : Type 0 where
  low : 0 < u
  high : u < 4294967296
  shift : u ≡ shifted_to m v q
  size : apart q u ≡ v
  form : ◌≡◌ {A = ℕ} (pick (ltb u q) 48 32) (pick m 48 32)
  near_low : q ≤ u + v
  near_high : u ≤ q + v

turned : (m : Bool) (v q u : ℕ) → (m ≡ true → 0 < v) → v < q → q + v < 4294967296 → u ≡ moved m v q → Turned m v q u
turned true v q u f l h e =
    let z = f refl in let x : ltb u q ≡ true = lt-ltb u q (omega arith) in
    record {
      low = omega arith;
      high = omega arith;
      shift = e ∙ shift_is true v q (in_range_lem (q - v) (omega arith) (omega arith));
      size = rw x (omega arith);
      form = rw x refl;
      near_low = omega arith;
      near_high = omega arith;
    }
turned false v q u f l h e =
    let x : ltb u q ≡ false = le-ltb u q (omega arith) in
    record {
      low = omega arith;
      high = omega arith;
      shift = e ∙ shift_is false v q (in_range_lem (q + v) (omega arith) (omega arith));
      size = rw x (omega arith);
      form = rw x refl;
      near_low = omega arith;
      near_high = omega arith;
    }

-- the ordinate u after steps in all of the size v
pub record Stepped (m : Bool) (v q u : ℕ) : Type 0 where
  pub shifts : Shifts m v q u
  pub near_low : q ≤ u + v
  pub near_high : u ≤ q + v

pub stepped : (m : Bool) (v q u : ℕ) → v < q → q + v < 4294967296 → u ≡ moved m v q → Stepped m v q u
stepped true v q u l h e =
    record {
      shifts = record { is = e; inside = in_range_lem (q - v) (omega arith) (omega arith); low = omega arith; high = omega arith };
      near_low = omega arith;
      near_high = omega arith;
    }
stepped false v q u l h e =
    record {
      shifts = record { is = e; inside = in_range_lem (q + v) (omega arith) (omega arith); low = omega arith; high = omega arith };
      near_low = omega arith;
      near_high = omega arith;
    }

-- how the code keeps the form of a difference with the sign m
form_of : (m : Bool) → (32 ≤ pick m 48 32) × (pick m 48 32 < 64) × (leb 48 (pick m 48 32) ≡ m)
form_of true = (omega arith, omega arith, refl)
form_of false = (omega arith, omega arith, refl)

some : (q : ℕ) → 0 < q → eqb q 0 ≡ false
some q l = ne_eqb q 0 (λ e. omega arith)

-- ---- the way

-- the state so far, whatever it keeps of the last form
been_went : {N : ℕ} {s : List ℕ} {c : Cur} (w : Way) {out mid : List ℤ} → Sits N s c → Been N s c w out mid
    → (d : ℕ) × (f : ℕ) × Went N s c (record { at = w.at; k = w.k; q = w.q; want = c.want; step = d; form = f }) out mid
been_went {c = c} w {out} z =
    ⊎_elim (λ x. (c.step, c.form, rw (x.0, x.1, x.2, x.4) (went_none c out z))) (λ x. (step_after w.before w.q, form_after w.before w.q, x.1))

been_from : {N : ℕ} {s : List ℕ} {c : Cur} (w : Way) {out mid : List ℤ} → Been N s c w out mid → c.k ≤ w.k
been_from w = ⊎_elim (λ x. let y = x.1 in omega arith) (λ x. let y = x.0 in omega arith)

-- no further
pub onward_none : {s : List ℕ} (w : Way) (out : List ℤ) → Safe s w → Onward s w w out out
onward_none w out h = record { safe = h; moves = inl refl; fewer = omega arith; been = λ N c from z l x. x }

module _ {s : List ℕ} (w : Way) (f : Fare s w) where
  -- a short difference is within the range
  module _ {b v j : ℕ} (t : ShortAt s w.at b v j) where
    dif_fits : (v < w.q) × (w.q + v < 4294967296)
    dif_fits = let l = f.some in let a = f.safe.low in let h = f.safe.high in let m = t.small in (omega arith, omega arith)

    pub dif_turns : (v ≤ w.q) × (w.q < 4294967296)
    dif_turns = let x = dif_fits.0 in let y = dif_fits.1 in (omega arith, omega arith)

    module _ {u : ℕ} (e : u ≡ moved (leb 106 b) v w.q) where
      dif_turned : Turned (leb 106 b) v w.q u
      dif_turned = turned (leb 106 b) v w.q u t.falls dif_fits.0 dif_fits.1 e

      pub dif_high : u < 4294967296
      dif_high = dif_turned.high

      -- past it
      pub onward_dif : (out out' : List ℤ) → out' ≡ set out w.k (entry_for u) → Onward s w (record { at = j; k = w.k + 1; before = w.q; q = u; end = w.end }) out out'
      onward_dif out out' o =
          let l = f.some in let a = f.safe.low in let h = f.safe.high in let m = t.small in let r = dif_turned in let nl = r.near_low in let nh = r.near_high in
          let g = form_of (leb 106 b) in let y = r.size in let x = t.token.low in let p = f.safe.most in
          record {
            safe = record { most = omega arith; past = f.safe.past; low = omega arith; high = omega arith; small = inr (omega arith) };
            moves = inr (omega arith);
            fewer = omega arith;
            been = λ N c from z k x. let p = been_went w z x in
                inr (
                  let i = been_from w x in omega arith,
                  rw (some w.q (omega arith), r.size, r.form)
                      (went_on (record { at = w.at; k = w.k; q = w.q; want = c.want; step = p.0; form = p.1 }) out' (pick (leb 106 b) 48 32) u p.2 (omega arith) g.0 g.1 (omega arith)
                      (rw g.2 t.token) (omega arith) (rw g.2 r.shift) (λ i. let i' = r.low in omega arith) o),
                );
          }

  -- a DUP of the last difference, of no more points than there is room for
  module _ (n : ℕ) (o : w.before ≡ 0 → ⊥) (m : 1 ≤ n) (l : n ≤ w.end - w.at) where
    step_small : apart w.before w.q < 10000
    step_small = ⊎_elim (λ x. absurd (o x)) (λ x. x) f.safe.small

    dup_most : apart w.before w.q * n ≤ 9999 * n
    dup_most = let x = step_small in mul-le-mul_right n (omega arith)

    dup_fits : (apart w.before w.q * n < w.q) × (w.q + apart w.before w.q * n < 4294967296)
    dup_fits = let x = dup_most in let a = f.safe.low in let h = f.safe.high in (omega arith, omega arith)

    pub dup_turns : (apart w.before w.q * n ≤ w.q) × (w.q < 4294967296)
    dup_turns = let x = dup_fits.0 in let y = dup_fits.1 in (omega arith, omega arith)

    module _ {u : ℕ} (e : u ≡ moved (ltb w.q w.before) (apart w.before w.q * n) w.q) where
      pub dup_stepped : Stepped (ltb w.q w.before) (apart w.before w.q * n) w.q u
      dup_stepped = stepped (ltb w.q w.before) _ w.q u dup_fits.0 dup_fits.1 e

      pub onward_dup : (out out' : List ℤ) {j : ℕ} → Token s w.at (times (n + 1)) j
          → out' ≡ sets out w.k (map entry_for (copies n (By (ltb w.q w.before) (apart w.before w.q)) w.q))
          → Onward s w (record { at = j; k = w.k + n; before = 0; q = u; end = w.end - n }) out out'
      onward_dup out out' {j} t i =
          let a = f.safe.low in let h = f.safe.high in let x = dup_most in let y = f.some in let r = dup_stepped in let nl = r.near_low in let nh = r.near_high in
          let g = form_of (ltb w.q w.before) in let b = t.low in let p = f.safe.most in let e' = f.safe.past in
          record {
            safe = record { most = omega arith; past = omega arith; low = omega arith; high = omega arith; small = inl refl };
            moves = inr (omega arith);
            fewer = omega arith;
            been = λ N c from z k x. ⊎_elim (λ p. absurd (o p.3))
                (λ p. inr (let q = p.0 in omega arith, went_dup _ out' (rw (ne_eqb w.before 0 o) at p.1) (omega arith) g.0 m t (omega arith) (rw g.2 r.shifts) (rw g.2 i))) x;
          }

-- where the run ends
pub onward_end : {N : ℕ} {s : List ℕ} {c : Cur} (w : Way) {out mid : List ℤ} → Sits N s c → Been N s c w out mid → Went N s c (reached c w) out mid
onward_end {c = c} w {out} z =
    ⊎_elim (λ x. rw (eq-eqb w.k c.k x.1, x.4) (went_none c out z)) (λ x. let l = x.0 in rw (ne_eqb w.k c.k (λ e. omega arith)) x.1)
