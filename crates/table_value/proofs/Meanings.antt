-- What a value says, by how the code keeps the spot where it stands (01, "Meaning"). No place of the code is named here. Assumes nothing.
use mathlib.Core.Path.{◌≡◌, refl, sym, subst}
use mathlib.Core.Bool.{Bool, true, false}
use mathlib.Core.List.{[], ◌∷◌}
use Prim.Native.Nat.{ℕ, suc, ◌+◌, ◌-◌, ◌*◌, ◌≤◌, ◌<◌}
use native.Mathlib.Omega.{arith}
use lib.Dec.{ltb, leb}
use borrow.Author.Tests.{le-leb, lt-leb, lt-ltb, le-ltb, eq-eqb, ne_eqb}
use Rattle.terms.specs.Logic.{pick, by_case}
use Rattle.table_spec.specs.Values.{own, gap, by, times, Own, Gap, By, Dup, Spot, after, ordinate, moved, copies}
use Rattle.table_spec.specs.Reading.{adds, refuses, says, again, in_range, all_in}
use Rattle.table_ordinates.specs.Reach.{shifted_to}
use Rattle.table_value.specs.States.{own as codes-own, gap as codes-gap, dif, dup_not, dup_dif, Holds, opening, checking, going}
use Rattle.table_ordinates.proofs.Moves.{Shifts, shift_none, steps_in, own_copies, gap_copies}

-- ---- a missing ordinate

pub gap_asked : {q want d form p : ℕ} {w : Spot} → Holds q want d form p w → (want ≡ 0 → ⊥) → says w p gap ≡ refuses 10
unfolding says
gap_asked opening n = absurd (n refl)
gap_asked (checking h) n = refl
gap_asked (going h) n = absurd (n refl)

pub gap_free : {q want d form p : ℕ} {w : Spot} → Holds q want d form p w → want ≡ 0 → says w p gap ≡ adds (0 ∷ []) Gap
unfolding says
gap_free opening n = refl
gap_free (checking h) n = absurd (omega arith)
gap_free (going h) n = refl

-- ---- an ordinate of its own

pub own_large : {q want d form p : ℕ} {w : Spot} (m : Bool) (v : ℕ) → Holds q want d form p w → 2147483647 < v → says w p (own m v) ≡ refuses 9
unfolding says
own_large m v opening l = rw (lt-leb v 2147483647 l) refl
own_large m v (checking h) l = rw (lt-leb v 2147483647 l) refl
own_large m v (going h) l = rw (lt-leb v 2147483647 l) refl

pub own_free : {q want d form p : ℕ} {w : Spot} (m : Bool) (v : ℕ) → Holds q want d form p w → v ≤ 2147483647 → want ≡ 0 → says w p (own m v) ≡ adds (ordinate m v ∷ []) Own
unfolding says
own_free m v opening l n = rw (le-leb v 2147483647 l) refl
own_free m v (checking h) l n = absurd (omega arith)
own_free m v (going h) l n = rw (le-leb v 2147483647 l) refl

pub own_unequal : {q want d form p : ℕ} {w : Spot} (m : Bool) (v : ℕ) → Holds q want d form p w → v ≤ 2147483647 → (want ≡ 0 → ⊥) → (ordinate m v ≡ want → ⊥) → says w p (own m v) ≡ refuses 10
unfolding says
own_unequal m v opening l n e = absurd (n refl)
own_unequal m v (checking {p = p} h) l n e = rw (le-leb v 2147483647 l, ne_eqb (ordinate m v) p e) refl
own_unequal m v (going h) l n e = absurd (n refl)

-- a check line's first value adds no point, and the ordinate before is what it says
pub own_equal : {q want d form p : ℕ} {w : Spot} (m : Bool) (v : ℕ) → Holds q want d form p w → v ≤ 2147483647 → (want ≡ 0 → ⊥) → ordinate m v ≡ want → (says w p (own m v) ≡ adds [] Own) × (want ≡ p)
unfolding says
own_equal m v opening l n e = absurd (n refl)
own_equal m v (checking {p = p} h) l n e = (rw (le-leb v 2147483647 l, eq-eqb (ordinate m v) p e) refl, refl)
own_equal m v (going h) l n e = absurd (n refl)

-- ---- a difference

pub dif_none : {q want d form p : ℕ} {w : Spot} (m : Bool) (v : ℕ) → Holds q want d form p w → q ≡ 0 → says w p (by m v) ≡ refuses 8
unfolding says
dif_none m v opening z = refl
dif_none m v (checking h) z = refl
dif_none m v (going {q = q} h) z = rw (eq-eqb q 0 z) refl

pub dif_out : {q want d form p : ℕ} {w : Spot} (m : Bool) (v : ℕ) → Holds q want d form p w → (q ≡ 0 → ⊥) → shifted_to m v q ≡ 0 → says w p (by m v) ≡ refuses 9
unfolding says
dif_out m v opening z o = absurd (z refl)
dif_out m v (checking h) z o = absurd (z refl)
dif_out m v (going {q = q} h) z o = rw (ne_eqb q 0 z, shift_none m v q o) refl

pub dif_adds : {q want d form p : ℕ} {w : Spot} (m : Bool) (v u : ℕ) → Holds q want d form p w → (q ≡ 0 → ⊥) → Shifts m v q u → says w p (by m v) ≡ adds (u ∷ []) (By m v)
unfolding says
dif_adds m v u opening z g = absurd (z refl)
dif_adds m v u (checking h) z g = absurd (z refl)
dif_adds m v u (going {q = q} h) z g = rw (ne_eqb q 0 z, g.inside, g.is) refl

-- ---- a DUP

-- where none may stand, whatever its count
again_not : (b : Bool) (n p : ℕ) → pick (ltb n 2) (refuses 8) (again (Dup b) (n - 1) p) ≡ refuses 8
unfolding again
again_not b n p = by_case (λ t. pick t (refuses 8) (refuses 8) ≡ refuses 8) (ltb n 2) (λ _. refl) (λ _. refl)

pub dup_nowhere : {q want d form p : ℕ} {w : Spot} (n : ℕ) → Holds q want d form p w → form < 2 → says w p (times n) ≡ refuses 8
unfolding says
dup_nowhere n opening l = refl
dup_nowhere n (checking h) l = refl
dup_nowhere n (going codes-own) l = absurd (omega arith)
dup_nowhere n (going codes-gap) l = absurd (omega arith)
dup_nowhere n (going (dif a b c)) l = absurd (omega arith)
dup_nowhere n (going {q = q} dup_not) l = again_not false n q
dup_nowhere n (going {q = q} (dup_dif c)) l = again_not true n q

pub dup_few : {q want d form p : ℕ} {w : Spot} (n : ℕ) → Holds q want d form p w → n < 2 → says w p (times n) ≡ refuses 8
unfolding says
dup_few n opening l = refl
dup_few n (checking h) l = refl
dup_few n (going h) l = rw (lt-ltb n 2 l) refl

-- of a value of its own, or a missing one: the ordinate again
pub dup_same : {q want d form p : ℕ} {w : Spot} (n : ℕ) → Holds q want d form p w → 2 ≤ form → form < 32 → 1 ≤ n → (says w p (times (n + 1)) ≡ adds (copies n (By false 0) q) (Dup false)) × (p ≡ q)
unfolding says again
dup_same n opening a b l = absurd (omega arith)
dup_same n (checking h) a b l = absurd (omega arith)
dup_same n (going {q = q} codes-own) a b l = let z : n + 1 - 1 ≡ n = omega arith in (rw (le-ltb (n + 1) 2 (omega arith), z, own_copies n q) refl, refl)
dup_same n (going {q = q} codes-gap) a b l = let z : n + 1 - 1 ≡ n = omega arith in (rw (le-ltb (n + 1) 2 (omega arith), z, gap_copies n q) refl, refl)
dup_same n (going (dif x y z)) a b l = absurd (omega arith)
dup_same n (going dup_not) a b l = absurd (omega arith)
dup_same n (going (dup_dif z)) a b l = absurd (omega arith)

-- of a difference: further steps
pub record Repeats (m : Bool) (d n q : ℕ) (w : Spot) (p : ℕ) : Type 0 where
  pub spot : w ≡ after (By m d)
  pub before : p ≡ q
  pub some : 0 < q

pub repeats : {q want d form p : ℕ} {w : Spot} (n : ℕ) → Holds q want d form p w → 32 ≤ form → Repeats (leb 48 form) d n q w p
repeats n opening l = absurd (omega arith)
repeats n (checking h) l = absurd (omega arith)
repeats n (going codes-own) l = absurd (omega arith)
repeats n (going codes-gap) l = absurd (omega arith)
repeats n (going (dif a b c)) l = record { spot = refl; before = refl; some = c }
repeats n (going dup_not) l = absurd (omega arith)
repeats n (going (dup_dif c)) l = absurd (omega arith)

module _ {m : Bool} {d q : ℕ} (n : ℕ) (l : 1 ≤ n) (h : q < 4294967296) {w : Spot} {p : ℕ} (g : Repeats m d n q w p) where
  steps_range : all_in (copies n (By m d) q) ≡ in_range (moved m (d * n) q)
  steps_range = let z : n ≡ suc (n - 1) = omega arith in subst (λ (i : ℕ). all_in (copies i (By m d) q) ≡ in_range (moved m (d * i) q)) (sym z) (steps_in m d (n - 1) q g.some h)

  pub dup_out : shifted_to m (d * n) q ≡ 0 → says w p (times (n + 1)) ≡ refuses 9
  unfolding says again
  dup_out o = let z : n + 1 - 1 ≡ n = omega arith in rw (g.spot, g.before, le-ltb (n + 1) 2 (omega arith), z, steps_range, shift_none m (d * n) q o) refl

  pub dup_steps : {u : ℕ} → Shifts m (d * n) q u → says w p (times (n + 1)) ≡ adds (copies n (By m d) q) (Dup true)
  unfolding says again
  dup_steps x = let z : n + 1 - 1 ≡ n = omega arith in rw (g.spot, g.before, le-ltb (n + 1) 2 (omega arith), z, steps_range, x.inside) refl
