-- How far a run of short differences and of DUPs of them has come, and the state of the code that it stands for. Assumes nothing.
use Rattle.std.specs.Prelude.{◌≡◌, List, ◌⊎◌, ℕ, ◌+◌, ◌-◌, ◌*◌, ◌<◌, ◌≤◌, ltb, eqb, ℤ, length}
use Rattle.terms.specs.Logic.{pick}
use Rattle.table_value.specs.States.{Sits, Went}
use Rattle.table_value.specs.declared.Cur.{Cur}
use Rattle.table_steps.specs.declared.Way.{Way}

-- how far apart two ordinates are
abbrev pub apart : ℕ → ℕ → ℕ
apart p q = pick (ltb q p) (p - q) (q - p)

-- how the code keeps the form of what stands last, and its size: a DUP (p is 0), or a difference from the ordinate p to q
abbrev pub form_after : ℕ → ℕ → ℕ
form_after p q = pick (eqb p 0) 1 (pick (ltb q p) 48 32)

abbrev pub step_after : ℕ → ℕ → ℕ
step_after p q = pick (eqb p 0) 0 (apart p q)

-- the state that a run has reached which began in the state c, if it took anything
abbrev pub state : Cur → Way → Cur
state c w = record { at = w.at; k = w.k; q = w.q; want = c.want; step = step_after w.before w.q; form = form_after w.before w.q }

abbrev pub reached : Cur → Way → Cur
reached c w = pick (eqb w.k c.k) c (state c w)

-- how many bytes stand before the place where the run ends: each value takes one, so that it adds no more points
abbrev pub left : Way → ℕ
left w = w.end - w.at

-- the ordinate is so far from the least and the largest that no difference below ten thousand a point leads out of range; the last one was such a difference
pub record Safe (s : List ℕ) (w : Way) : Type 0 where
  pub most : w.k + left w ≤ 65536
  pub past : w.end + 4 ≤ length s
  pub low : 9999 * left w < w.q
  pub high : w.q + 9999 * left w < 4294967296
  pub small : w.before ≡ 0 ⊎ apart w.before w.q < 10000

-- there is room for a short value, and for a point
pub record Fare (s : List ℕ) (w : Way) : Type 0 where
  pub safe : Safe s w
  pub room : w.at + 5 ≤ length s
  pub some : w.at < w.end

-- nothing was taken yet, or the state is reached that the way stands for, and what was stored
abbrev pub Been : ℕ → List ℕ → Cur → Way → List ℤ → List ℤ → Type 0
Been N s c w out out' =
    ((w.at ≡ c.at) × (w.k ≡ c.k) × (w.q ≡ c.q) × (w.before ≡ 0) × (out' ≡ out)) ⊎ ((c.k < w.k) × Went N s c (state c w) out out')

-- from the way w to the way r: no further, or by a point or more; whatever state the run began in
pub record Onward (s : List ℕ) (w r : Way) (out out' : List ℤ) : Type 0 where
  pub safe : Safe s r
  pub moves : r.at ≡ w.at ⊎ w.k < r.k
  pub fewer : r.k + left r ≤ w.k + left w
  pub been : (N : ℕ) (c : Cur) (from : List ℤ) → Sits N s c → w.k + left w ≤ N → Been N s c w from out → Been N s c r from out'
