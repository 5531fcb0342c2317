-- The loop over the ordinates, and the bounds that it keeps. No place of the code is named here. Assumes nothing.
use mathlib.Core.Path.{◌≡◌, refl, sym, ap, ◌∙◌}
use mathlib.Core.Bool.{Bool, true, false}
use mathlib.Core.List.{List, ◌∷◌, map}
use Prim.Native.Nat.{ℕ, zero, suc, ◌+◌, ◌-◌, ◌≤◌, ◌<◌}
use native.Mathlib.Omega.{arith}
use lib.Dec.{ltb, eqb}
use lib.IntN.{ℤ}
use lib.ListN.{length, get_or, take, drop, drop_of_length-le, length-map}
use lib.Seq.{drop-cons, get_or-take, length-take-le}
use Rattle.terms.specs.Logic.{pick, by_case}
use Rattle.table_spec.specs.Frame.{zero_ordinate, ordinate_of}
use Rattle.ordinate_tally.specs.declared.Tally.{Tally}
use Rattle.ordinate_tally.specs.Tally.{less_of, great_of, faint_of, no_ordinate, with_given, with_ordinate, tally_of, Bounded, Tallied}

-- ---- bounds

pick_small : (b : ℕ) (q : Bool) {x y : ℕ} → x < b → y < b → pick q x y < b
pick_small b true h k = h
pick_small b false h k = k

pub less_small : (b : ℕ) {a u : ℕ} → a < b → u < b → less_of a u < b
less_small b {a} {u} h k = pick_small b (eqb a 0) k (pick_small b (ltb a u) h k)

pub great_small : (b : ℕ) {a u : ℕ} → a < b → u < b → great_of a u < b
great_small b {a} {u} h k = pick_small b (ltb u a) h k

pub faint_small : {a u : ℕ} → a < 4294967296 → u < 4294967296 → faint_of a u < 4294967296
faint_small {a} {u} h k = pick_small 4294967296 (eqb u zero_ordinate) h (less_small 4294967296 {a = a} h (omega arith))

pub bounded_more : {m : ℕ} {t : Tally} {u : ℕ} → Bounded m t → u < 4294967296 → Bounded (m + 1) (with_ordinate t u)
unfolding with_ordinate
bounded_more {m} {t} {u} b h =
    by_case (λ q. Bounded (m + 1) (pick q t (with_given t u))) (eqb u 0)
    (λ _. record { given = omega (arith, b.given); raised = b.raised; low = b.low; high = b.high; faint = b.faint })
    (λ _. record {
      given = omega (arith, b.given);
      raised = omega (arith, b.raised);
      low = less_small 4294967296 {a = t.low} b.low h;
      high = great_small 4294967296 {a = t.high} b.high h;
      faint = faint_small {a = t.faint} b.faint h;
    })

-- ---- the loop

pub record Far (n : ℕ) (l : List ℕ) (t : Tally) (k : ℕ) : Type 0 where
  pub high : k ≤ n
  pub is : t ≡ tally_of (drop k l)
  pub bounded : Bounded (n - k) t

pub far_start : (n : ℕ) (l : List ℕ) → length l ≡ n → Far n l no_ordinate n
unfolding tally_of
far_start n l e = record {
  high = omega arith;
  is = rw (drop_of_length-le l {i = n} (omega (arith, e))) refl;
  bounded = record { given = omega arith; raised = omega arith; low = omega arith; high = omega arith; faint = omega arith };
}

-- one ordinate more in front
cons_at : (l : List ℕ) (j k u : ℕ) → suc j ≡ k → j < length l → u ≡ get_or l j 0 → drop j l ≡ u ∷ drop k l
cons_at l j k u e h g = drop-cons l j 0 h ∙ ap (λ x. x ∷ drop (suc j) l) (sym g) ∙ ap (λ x. u ∷ drop x l) e

pub far_more : {n : ℕ} {l : List ℕ} {t : Tally} {k u : ℕ} → length l ≡ n → Far n l t k → 0 < k → u ≡ get_or l (k - 1) 0 → u < 4294967296 → Far n l (with_ordinate t u) (k - 1)
unfolding tally_of
far_more {n} {l} {t} {k} {u} e f h g small =
    let j = f.high in
    let back : suc (k - 1) ≡ k = omega arith in
    let more : n - k + 1 ≡ n - (k - 1) = omega arith in
    record {
      high = omega arith;
      is = rw (cons_at l (k - 1) k u back (omega (arith, e)) g) (ap (λ x. with_ordinate x u) f.is);
      bounded = rw more at (bounded_more {u = u} f.bounded small);
    }

pub far_end : {n : ℕ} {l : List ℕ} {t : Tally} {k : ℕ} → Far n l t k → k ≤ 0 → Tallied n l t
far_end {n} {l} {t} {k = zero} f h = let z : n - 0 ≡ n = omega arith in record { is = f.is; bounded = rw z at f.bounded }
far_end {n} {l} {t} {k = suc k} f h = absurd (omega arith)

-- ---- the first entries of the slice, as ordinates

pub front_length : (n : ℕ) (ys : List ℤ) → n ≤ length ys → length (take n (map ordinate_of ys)) ≡ n
front_length n ys h = length-take-le n (map ordinate_of ys) (omega (arith, length-map ys ordinate_of))

pub front_entry : (n : ℕ) (ys : List ℤ) (k : ℕ) → k < n → get_or (map ordinate_of ys) k 0 ≡ get_or (take n (map ordinate_of ys)) k 0
front_entry n ys k h = sym (get_or-take n (map ordinate_of ys) k 0 h)
