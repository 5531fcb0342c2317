-- What values stand for. No place of the code is named here. Assumes nothing.
use mathlib.Core.Path.{◌≡◌, refl, sym, ◌∙◌, subst}
use mathlib.Core.Bool.{Bool, true}
use Prim.Native.Nat.{ℕ, ◌+◌, ◌-◌, ◌*◌, ◌≤◌, ◌<◌}
use native.Mathlib.Omega.{arith}
use native.Mathlib.Nat.{mul-one}
use lib.Dec.{ltb}
use borrow.Author.Tests.{le-leb, lt-leb, lt-ltb, eq-eqb, ne_eqb}
use Rattle.terms.specs.Logic.{pick, by_case, no_way}
use Rattle.table_spec.specs.Values.{own, gap, by, times, Form, Own, Gap, By, Dup, after, moved}
use Rattle.table_spec.specs.Reading.{refuses, says, again}
use Rattle.table_ordinates.specs.Reach.{shifted_to}
use Rattle.table_ordinates.proofs.Moves.{shift_some, shift_none, own_reach, own_small, reaches, same_last, steps_last}
use Rattle.table_value.specs.States.{own as codes-own, gap as codes-gap, going}
use Rattle.table_value.proofs.Meanings.{dup_same, Repeats, dup_out, dup_steps}
use Rattle.plain_values.specs.Means.{Means, After, Anywhere, missing_one, same_again}
use Rattle.plain_values.specs.declared.Form.TheVariants as form
use Rattle.std.specs.Prelude.{Ok, Err}
use Rattle.terms.specs.declared.Reason.{Reason}

-- ---- what a value stands for

pub own_not : (m : Bool) (v : ℕ) → 2147483647 < v → Anywhere (own m v) (Err Reason.OutOfRange)
unfolding says
own_not m v l q f = rw (lt-leb v 2147483647 l) refl

pub own_is : (m : Bool) (v u : ℕ) → v ≤ 2147483647 → u ≡ moved m v 2147483648
    → Anywhere (own m v) (Ok (record { q = 2147483648; minus = m; d = v; n = 1; last = u; form = form.Own }))
unfolding says
own_is m v u l e q f = (
  record { some = omega arith; few = omega arith; small = omega arith; end = rw e (own_small m v l); reach = own_reach m v l; right = tt },
  record { is = rw (le-leb v 2147483647 l) refl; last = sym e },
)

pub gap_is : (q : ℕ) → After q gap (Ok missing_one)
unfolding says
gap_is q f = (
  record { some = omega arith; few = omega arith; small = omega arith; end = omega arith; reach = omega arith; right = tt },
  record { is = refl; last = refl },
)

module _ (q : ℕ) (m : Bool) (v : ℕ) where
  pub dif_8 : q ≡ 0 → After q (by m v) (Err Reason.Misplaced)
  unfolding says
  dif_8 z f = rw (eq-eqb q 0 z) refl

  pub dif_9 : (q ≡ 0 → ⊥) → shifted_to m v q ≡ 0 → After q (by m v) (Err Reason.OutOfRange)
  unfolding says
  dif_9 z o f = rw (ne_eqb q 0 z, shift_none m v q o) refl

  pub dif_is : (u : ℕ) → q < 4294967296 → v < 10000000000 → (q ≡ 0 → ⊥) → u ≡ shifted_to m v q → (u ≡ 0 → ⊥)
      → After q (by m v) (Ok (record { q = q; minus = m; d = v; n = 1; last = u; form = form.Dif m v }))
  unfolding says
  dif_is u hq hv z g o f =
      let x = shift_some m v q u g o in let y : v * 1 ≡ v = mul-one v in (
        record { some = omega arith; few = omega arith; small = hq; end = x.high; reach = reaches m v 1 q (rw y x.inside); right = (x.low, hv) },
        record { is = rw (ne_eqb q 0 z, x.inside) refl; last = sym x.is },
      )

pub dup_few : (q : ℕ) (f : Form) (v : ℕ) → v < 2 → Means q f (times v) (Err Reason.Misplaced)
unfolding says
dup_few q f v l = rw (lt-ltb v 2 l) refl

pub dup_dup : (q : ℕ) (b : Bool) (v : ℕ) → Means q (Dup b) (times v) (Err Reason.Misplaced)
unfolding says again
dup_dup q b v = by_case (λ t. pick t (refuses 8) (refuses 8) ≡ refuses 8) (ltb v 2) (λ _. refl) (λ _. refl)

module _ (q n : ℕ) (hq : q < 4294967296) (l : 1 ≤ n) (b : n < 100000) where
  pub dup_own : Means q Own (times (n + 1)) (same_again q n)
  dup_own = (
    record { some = l; few = b; small = hq; end = hq; reach = omega arith; right = λ x. no_way x },
    record { is = (dup_same n (going (codes-own {d = 0})) (omega arith) (omega arith) l).0; last = same_last n q },
  )

  pub dup_gap : Means q Gap (times (n + 1)) (same_again q n)
  dup_gap = (
    record { some = l; few = b; small = hq; end = hq; reach = omega arith; right = λ x. no_way x },
    record { is = (dup_same n (going (codes-gap {d = 0})) (omega arith) (omega arith) l).0; last = same_last n q },
  )

  module _ (m : Bool) (d : ℕ) (o : 0 < q) where
    steps : Repeats m d n q (after (By m d)) q
    steps = record { spot = refl; before = refl; some = o }

    pub step_9 : shifted_to m (d * n) q ≡ 0 → Means q (By m d) (times (n + 1)) (Err Reason.OutOfRange)
    step_9 z = dup_out n l hq steps z

    pub step_is : (u : ℕ) → u ≡ shifted_to m (d * n) q → (u ≡ 0 → ⊥) → Means q (By m d) (times (n + 1)) (Ok (record { q = q; minus = m; d = d; n = n; last = u; form = form.Dup true }))
    step_is u g z =
        let x = shift_some m (d * n) q u g z in (
          record { some = l; few = b; small = hq; end = x.high; reach = reaches m d n q x.inside; right = λ _. x.low },
          record { is = dup_steps n l hq steps x; last = steps_last m d n q ∙ sym x.is },
        )

-- a count, and one less
pub down : (P : ℕ → Type 0) (v : ℕ) → 2 ≤ v → P (v - 1 + 1) → P v
down P v l h = let e : v - 1 + 1 ≡ v = omega arith in subst P e h
