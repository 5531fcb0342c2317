-- The abscissa of a point, rounded to the nearest thousandth, passes the check of heads in every frame (01, "Checks" and "The written text"; 02, T-03), so refusal 14 is never needed.
-- m is one less than the number of points. Assumes nothing.
use Rattle.std.specs.Prelude.{◌≡◌, Bool, true, false, ℕ, ◌+◌, ◌-◌, ◌*◌, ◌/◌, ◌≤◌, ◌<◌, eqb}
use Rattle.std.proofs.Math.Path.{refl}
use Rattle.std.proofs.Common.{ap, ◌∙◌, arith, mul-add, add-mul, mul_comm, mul-le-mul_right, le-div_iff_mul-le, div-lt_iff_lt-mul, le-leb, eq-eqb, ne_eqb, eqb-true}
use Rattle.std.proofs.lemmas.Bool.{eqb-false}
use Rattle.terms.specs.Logic.{pick, by_case}
use Rattle.table_spec.specs.Frame.{apart, exact, nearest, twice_off, within_spacing, within_unit, passes}
use Rattle.table_write_law.specs.Abscissas.{half}

-- m times the abscissa of the point i
unfoldable total : ℕ → ℕ → ℕ → ℕ → ℕ
total first last m i = first * (m - i) + last * i

-- the abscissa, rounded
unfoldable rounded : ℕ → ℕ → ℕ → ℕ → ℕ
rounded first last m i = (total first last m i + total first last m i + m) / (m + m)

shift : (first last m i h : ℕ) → i ≤ m → apart (h * m + i * first) (first * m + i * last) ≡ apart (h * m) (total first last m i)
unfolding total
shift first last m i h l =
    let e : m ≡ (m - i) + i = omega arith in
    let a : first * m ≡ first * (m - i) + first * i = ap (λ (k : ℕ). first * k) e ∙ mul-add first (m - i) i in
    let b = mul_comm i first in let c = mul_comm i last in
    omega arith

nearly : (first last m i : ℕ) → 0 < m → 2 * apart (rounded first last m i * m) (total first last m i) ≤ m
unfolding rounded
nearly first last m i h = half (total first last m i) m h

-- so it is within half a unit of any place that is worth a thousandth or more
rounded_near : (first last m i u : ℕ) → 0 < m → i ≤ m → 0 < u → 2 * apart (rounded first last m i * m + i * first) (first * m + i * last) ≤ u * m
rounded_near first last m i u h l g = rw (shift first last m i (rounded first last m i) l) (omega (arith, nearly first last m i h, mul-le-mul_right m g))

-- it lies where first and last do
between : (first last m i lo : ℕ) → i ≤ m → lo ≤ first → lo ≤ last → lo * m ≤ total first last m i
unfolding total
between first last m i lo l a b =
    let e : m ≡ (m - i) + i = omega arith in
    let c : lo * m ≡ lo * (m - i) + lo * i = ap (λ (x : ℕ). lo * x) e ∙ mul-add lo (m - i) i in
    omega (arith, mul-le-mul_right (m - i) a, mul-le-mul_right i b)

beyond : (first last m i hi : ℕ) → i ≤ m → first ≤ hi → last ≤ hi → total first last m i ≤ hi * m
unfolding total
beyond first last m i hi l a b =
    let e : m ≡ (m - i) + i = omega arith in
    let c : hi * m ≡ hi * (m - i) + hi * i = ap (λ (x : ℕ). hi * x) e ∙ mul-add hi (m - i) i in
    omega (arith, mul-le-mul_right (m - i) a, mul-le-mul_right i b)

rounded_range : (first last m i lo hi : ℕ) → 0 < m → i ≤ m → lo ≤ first → lo ≤ last → first ≤ hi → last ≤ hi → (lo ≤ rounded first last m i) × (rounded first last m i ≤ hi)
unfolding rounded
rounded_range first last m i lo hi h l a b c d =
    let k : 0 < m + m = omega arith in
    let u = between first last m i lo l a b in
    let v = beyond first last m i hi l c d in
    let x = mul-add lo m m in
    let y = mul-add hi m m in
    let z = add-mul hi 1 (m + m) in
    let w : 1 * (m + m) ≡ m + m = omega arith in
    let p : lo * (m + m) ≤ total first last m i + total first last m i + m = omega arith in
    let q : total first last m i + total first last m i + m < (hi + 1) * (m + m) = omega arith in
    ((le-div_iff_mul-le k).1 p, omega (arith, (div-lt_iff_lt-mul k).1 q))

-- ---- in the words of the frame

module _ (first last n i : ℕ) where
  nearest_is : (n ≡ 1 → ⊥) → nearest first last n i ≡ rounded first last (n - 1) i
  unfolding nearest exact rounded total
  nearest_is e = rw (ne_eqb n 1 e) refl

  nearest_one : n ≡ 1 → nearest first last n i ≡ first
  unfolding nearest
  nearest_one e = rw (eq-eqb n 1 e) refl

  either : (a b : Bool) → b ≡ true → pick a true b ≡ true
  either true b e = refl
  either false b e = e

  coarse_passes : (h u : ℕ) → (n ≡ 1 → ⊥) → twice_off first last n h i ≤ u * (n - 1) → passes first last n h u i ≡ true
  unfolding passes
  coarse_passes h u e l = rw (ne_eqb n 1 e) (either (within_spacing first last n h i) (within_unit first last n h u i) (le-leb (twice_off first last n h i) (u * (n - 1)) l))

  one_passes : (u : ℕ) → n ≡ 1 → passes first last n first u i ≡ true
  unfolding passes
  one_passes u e = rw (eq-eqb n 1 e) (eq-eqb first first refl)

  -- every rounded abscissa passes the check of heads, in every frame, if its last written place is worth a thousandth or more
  pub head_passes : (u : ℕ) → i < n → 0 < u → passes first last n (nearest first last n i) u i ≡ true
  head_passes u l g =
      by_case (λ t. passes first last n (nearest first last n i) u i ≡ true) (eqb n 1)
      (λ e. let z = eqb-true n 1 e in rw (nearest_one z) (one_passes u z))
      (λ e. let z = eqb-false n 1 e in rw (nearest_is z) (coarse_passes (rounded first last (n - 1) i) u z (rounded_near first last (n - 1) i u (omega (arith, z)) (omega arith) g)))

  -- and lies where F and L do
  pub nearest_range : (lo hi : ℕ) → i < n → lo ≤ first → lo ≤ last → first ≤ hi → last ≤ hi → (lo ≤ nearest first last n i) × (nearest first last n i ≤ hi)
  nearest_range lo hi l a b c d =
      by_case (λ t. (lo ≤ nearest first last n i) × (nearest first last n i ≤ hi)) (eqb n 1)
      (λ e. rw (nearest_one (eqb-true n 1 e)) (a, c))
      (λ e. let z = eqb-false n 1 e in rw (nearest_is z) (rounded_range first last (n - 1) i lo hi (omega (arith, z)) (omega arith) a b c d))
