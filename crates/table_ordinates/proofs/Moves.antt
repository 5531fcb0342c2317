-- Ordinates that move by differences, and copies of them. No place of the code is named here. Assumes nothing.
use mathlib.Core.Path.{◌≡◌, refl, sym, ap, ◌∙◌}
use mathlib.Core.Bool.{Bool, true, false}
use mathlib.Core.List.{List, ◌∷◌}
use Prim.Native.Nat.{ℕ, zero, suc, ◌+◌, ◌-◌, ◌*◌, ◌≤◌, ◌<◌}
use native.Mathlib.Omega.{arith}
use native.Mathlib.Nat.{mul-suc, add-zero, mul-one, mul-le-mul}
use lib.Dec.{ltb, leb}
use lib.ListN.{length}
use borrow.Author.Tests.{lt-ltb, le-ltb, le-leb, ltb-true, ltb-false, leb-true, leb-false}
use Rattle.terms.specs.Logic.{pick, by_case, no_way}
use Rattle.table_spec.specs.Values.{Form, Own, Gap, By, moved, copies, last_or}
use Rattle.table_spec.specs.Reading.{in_range, all_in}
use Rattle.table_ordinates.specs.Reach.{shifted_to, Reaches}

-- ---- one difference

pub in_range_lem : (u : ℕ) → 0 < u → u < 4294967296 → in_range u ≡ true
in_range_lem u l h = rw (le-leb 1 u l, lt-ltb u 4294967296 h) refl

pub out_high : (u : ℕ) → 4294967296 ≤ u → in_range u ≡ false
out_high u h = rw (le-leb 1 u (omega arith), le-ltb u 4294967296 h) refl

pub out_low : (u : ℕ) → u ≡ 0 → in_range u ≡ false
out_low u h = rw h refl

pub ranged : (u : ℕ) → in_range u ≡ true → (0 < u) × (u < 4294967296)
ranged u e = by_case (λ t. leb 1 u ≡ t → pick t (ltb u 4294967296) false ≡ true → (0 < u) × (u < 4294967296)) (leb 1 u)
    (λ _ l h. (leb-true 1 u l, ltb-true u 4294967296 h)) (λ _ l h. no_way h) refl e

pub shift_is : (m : Bool) (v q : ℕ) → in_range (moved m v q) ≡ true → moved m v q ≡ shifted_to m v q
shift_is m v q e = rw e refl

-- a shifted ordinate that is one
pub record Shifts (m : Bool) (v q u : ℕ) : Type 0 where
  pub is : u ≡ moved m v q
  pub inside : in_range (moved m v q) ≡ true
  pub low : 0 < u
  pub high : u < 4294967296

pub shift_some : (m : Bool) (v q u : ℕ) → u ≡ shifted_to m v q → (u ≡ 0 → ⊥) → Shifts m v q u
shift_some m v q u =
    by_case (λ t. in_range (moved m v q) ≡ t → u ≡ pick t (moved m v q) 0 → (u ≡ 0 → ⊥) → Shifts m v q u) (in_range (moved m v q))
    (λ _ h e n. let z = ranged (moved m v q) h in record { is = e; inside = h; low = rw e z.0; high = rw e z.1 }) (λ _ h e n. absurd (n e)) refl

pub shift_none : (m : Bool) (v q : ℕ) → shifted_to m v q ≡ 0 → in_range (moved m v q) ≡ false
shift_none m v q =
    by_case (λ t. in_range (moved m v q) ≡ t → pick t (moved m v q) 0 ≡ 0 → t ≡ false) (in_range (moved m v q))
    (λ _ h e. let z = ranged (moved m v q) h in absurd (omega (arith, z.0))) (λ _ h e. refl) refl

-- ---- copies

pub copies_length : (n : ℕ) (r : Form) (p : ℕ) → length (copies n r p) ≡ n
copies_length zero r p = refl
copies_length (suc n) r p = ap suc (copies_length n r _)

-- the same ordinate again is a difference of 0
pub own_copies : (n p : ℕ) → copies n Own p ≡ copies n (By false 0) p
own_copies zero p = refl
own_copies (suc n) p = rw (add-zero p) (ap (λ (l : List ℕ). p ∷ l) (own_copies n p))

pub gap_copies : (n p : ℕ) → copies n Gap p ≡ copies n (By false 0) p
gap_copies zero p = refl
gap_copies (suc n) p = rw (add-zero p) (ap (λ (l : List ℕ). p ∷ l) (gap_copies n p))

pub same_last : (n p : ℕ) → last_or p (copies n (By false 0) p) ≡ p
same_last zero p = refl
same_last (suc n) p = rw (add-zero p) (same_last n p)

-- n steps are one of n times the size
twice : (m : Bool) (d n q : ℕ) → moved m (d * n) (moved m d q) ≡ moved m (d * suc n) q
twice true d n q = let z = mul-suc d n in omega arith
twice false d n q = let z = mul-suc d n in omega arith

pub steps_last : (m : Bool) (d n q : ℕ) → last_or q (copies n (By m d) q) ≡ moved m (d * n) q
steps_last true d zero q = omega arith
steps_last false d zero q = omega arith
steps_last m d (suc n) q = steps_last m d n (moved m d q) ∙ twice m d n q

stays_out : (m : Bool) (d n q : ℕ) → 0 < q → q < 4294967296 → in_range (moved m d q) ≡ false → in_range (moved m (d * suc n) q) ≡ false
stays_out true d n q l h e =
    let z = mul-suc d n in
    by_case (λ t. leb 1 (q - d) ≡ t → in_range (q - d * suc n) ≡ false) (leb 1 (q - d))
    (λ _ x. no_way (sym e ∙ in_range_lem (q - d) (leb-true 1 (q - d) x) (omega arith)))
    (λ _ x. let y = leb-false 1 (q - d) x in out_low (q - d * suc n) (omega arith)) refl
stays_out false d n q l h e =
    let z = mul-suc d n in
    by_case (λ t. ltb (q + d) 4294967296 ≡ t → in_range (q + d * suc n) ≡ false) (ltb (q + d) 4294967296)
    (λ _ x. no_way (sym e ∙ in_range_lem (q + d) (omega arith) (ltb-true (q + d) 4294967296 x)))
    (λ _ x. let y = ltb-false (q + d) 4294967296 x in out_high (q + d * suc n) (omega arith)) refl

-- all ordinates of n steps are in range exactly if the last one is
pub steps_in : (m : Bool) (d n q : ℕ) → 0 < q → q < 4294967296 → all_in (copies (suc n) (By m d) q) ≡ in_range (moved m (d * suc n) q)
steps_in m d zero q l h =
    let z : d * 1 ≡ d = mul-one d in
    rw z (by_case (λ t. pick t true false ≡ t) (in_range (moved m d q)) (λ _. refl) (λ _. refl))
steps_in m d (suc n) q l h =
    by_case (λ t. in_range (moved m d q) ≡ t → pick t (all_in (copies (suc n) (By m d) (moved m d q))) false ≡ in_range (moved m (d * suc (suc n)) q)) (in_range (moved m d q))
    (λ _ e. let z = ranged (moved m d q) e in steps_in m d n (moved m d q) z.0 z.1 ∙ ap in_range (twice m d (suc n) q))
    (λ _ e. sym (stays_out m d (suc n) q l h e)) refl

-- a step within reach
pub reach_next : (m : Bool) (d n q : ℕ) → Reaches m d (suc n) q → Reaches m d 1 q × Reaches m d n (moved m d q)
reach_next true d n q h = let z = mul-suc d n in let y : d * 1 ≡ d = mul-one d in (omega arith, omega arith)
reach_next false d n q h = let z = mul-suc d n in let y : d * 1 ≡ d = mul-one d in (omega arith, omega arith)

pub reach_small : (m : Bool) (d n q : ℕ) → q < 4294967296 → Reaches m d n q → moved m (d * n) q < 4294967296
reach_small true d n q h k = omega arith
reach_small false d n q h k = k

-- n steps whose last ordinate is in range are within reach
pub reaches : (m : Bool) (d n q : ℕ) → in_range (moved m (d * n) q) ≡ true → Reaches m d n q
reaches true d n q e = let z = ranged (q - d * n) e in omega (arith, z.0)
reaches false d n q e = (ranged (q + d * n) e).1

-- an ordinate of its own is within reach of zero
pub own_reach : (m : Bool) (v : ℕ) → v ≤ 2147483647 → Reaches m v 1 2147483648
own_reach true v l = let y : v * 1 ≡ v = mul-one v in omega arith
own_reach false v l = let y : v * 1 ≡ v = mul-one v in omega arith

pub own_small : (m : Bool) (v : ℕ) → v ≤ 2147483647 → moved m v 2147483648 < 4294967296
own_small true v l = omega arith
own_small false v l = omega arith

-- the size of the last of many steps holds in 64 bits
pub far_small : (d n : ℕ) → d < 10000000000 → n < 100000 → d * n < 1000000000000000
far_small d n h l = let z = mul-le-mul {n₁ = d} {m₁ = n} {n₂ = 9999999999} {m₂ = 99999} (omega arith) (omega arith) in omega arith
