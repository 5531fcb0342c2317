-- Numbers with a sign on a scale with its zero at b: laws over any b (2^31 for ordinates, 10^10 for abscissas). Assumes nothing.
use Rattle.std.specs.Prelude.{◌≡◌, refl, Bool, true, false, cond, List, [], ◌∷◌, map, ℕ, zero, suc, ◌+◌, ◌-◌, ◌<◌, ltb, ℤ, pos, negsuc, ◌+ℤ◌, length, get_or}
use Rattle.std.proofs.Common.{ap, arith, not-suc-le-zero, le_of_suc-le-suc, SFits, to_z, ltb-true, ltb-false, le-ltb, lt-ltb}
use Rattle.std.specs.Int.Signed.{mag}
use Rattle.std.specs.Int.{w32, w64}
use Rattle.std.proofs.Math.Facts.{to_z_pos}
use Rattle.table_spec.specs.Frame.{lift, lower, ordinate_of, entry_for, zero_ordinate}

-- ---- up the scale

pub lift_sum : (b : ℕ) (z : ℤ) → mag z < b → z +ℤ pos b ≡ pos (lift b z)
lift_sum b (pos n) h = ap pos (omega arith)
lift_sum b (negsuc n) h = rw (le-ltb b (suc n) h) refl

pub lift_small : (b : ℕ) (z : ℤ) → mag z < b → lift b z < b + b
lift_small b (pos n) h = omega arith
lift_small b (negsuc n) h = omega arith

-- ---- down the scale

lower_case : (b u : ℕ) (t : Bool) → ltb u b ≡ t → u < b + b → mag (cond t (negsuc (b - suc u)) (pos (u - b))) < b
lower_case b u true e h = omega (arith, ltb-true u b e)
lower_case b u false e h = omega (arith, ltb-false u b e)

pub lower_small : (b u : ℕ) → u < b + b → mag (lower b u) < b
lower_small b u h = lower_case b u (ltb u b) refl h

back_case : (b u : ℕ) (t : Bool) → ltb u b ≡ t → lift b (cond t (negsuc (b - suc u)) (pos (u - b))) ≡ u
back_case b u true e = omega (arith, ltb-true u b e)
back_case b u false e = omega (arith, ltb-false u b e)

pub lift_lower : (b u : ℕ) → lift b (lower b u) ≡ u
lift_lower b u = back_case b u (ltb u b) refl

pub lower_lift : (b : ℕ) (z : ℤ) → mag z < b → lower b (lift b z) ≡ z
lower_lift b (pos n) h = let e : b + n - b ≡ n = omega arith in rw (le-ltb (b + n) b (omega arith), e) refl
lower_lift b (negsuc n) h = let e : b - suc (b - suc n) ≡ n = omega arith in rw (lt-ltb (b - suc n) b (omega arith), e) refl

-- ---- ordinates: 32 bits

pub wider : {z : ℤ} → SFits w32 z → SFits w64 z
wider f = record { sfits = omega (arith, f.sfits) }

pub lift_fits : (z : ℤ) → SFits w32 z → SFits w64 (pos (ordinate_of z))
lift_fits z f = record { sfits = omega (arith, lift_small zero_ordinate z f.sfits) }

pub entry_fits : (u : ℕ) → u < 4294967296 → SFits w32 (entry_for u)
entry_fits u h = record { sfits = lower_small zero_ordinate u h }

pub entry_wide : (u : ℕ) → u < 4294967296 → SFits w64 (entry_for u)
entry_wide u h = wider (entry_fits u h)

pub wide : (u : ℕ) → u < 4294967296 → to_z w64 u ≡ pos u
wide u h = to_z_pos w64 {n = u} (omega arith)

-- an entry of the slice as an ordinate
pub ordinate_at : (l : List ℤ) (k : ℕ) → k < length l → get_or (map ordinate_of l) k 0 ≡ ordinate_of (get_or l k (pos 0))
ordinate_at [] k h = absurd (not-suc-le-zero h)
ordinate_at (x ∷ l) zero h = refl
ordinate_at (x ∷ l) (suc k) h = ordinate_at l k (le_of_suc-le-suc h)
