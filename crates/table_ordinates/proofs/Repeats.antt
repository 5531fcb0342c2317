-- Copies of an ordinate, stored one after the other. No place of the code is named here. Assumes nothing.
use mathlib.Core.Path.{◌≡◌, refl, ◌∙◌, subst}
use mathlib.Core.Bool.{Bool}
use mathlib.Core.List.{List, [], ◌∷◌, map}
use Prim.Native.Nat.{ℕ, suc, ◌+◌, ◌-◌, ◌*◌, ◌≤◌, ◌<◌}
use native.Mathlib.Omega.{arith}
use native.Mathlib.Numerals.{add-one}
use native.Mathlib.Nat.{mul-one}
use lib.IntN.{ℤ}
use lib.ListN.{length, set, length-set}
use lib.Seq.{sets, set_out}
use Rattle.table_spec.specs.Frame.{entry_for}
use Rattle.table_spec.specs.Values.{By, moved, copies}
use Rattle.table_ordinates.specs.Reach.{Reaches}
use Rattle.table_ordinates.proofs.Moves.{reach_next, reach_small}

-- past the end nothing is stored
pub past_end : (out : List ℤ) (k : ℕ) (ys : List ℤ) → length out ≤ k → out ≡ sets out k ys
past_end out k [] h = refl
past_end out k (y ∷ ys) h = let e = set_out out k y h in rw e (past_end out (suc k) ys (omega arith))

-- so far: the copies that are left, stored from here on, make the slice that all of them make
pub record Repeating (out₀ out : List ℤ) (k q n i u left : ℕ) (m : Bool) (d : ℕ) : Type 0 where
  pub stored : sets out i (map entry_for (copies left (By m d) u)) ≡ sets out₀ k (map entry_for (copies n (By m d) q))
  pub reach : Reaches m d left u
  pub small : u < 4294967296
  pub count : i + left ≡ k + n
  pub same : length out ≡ length out₀

module _ {out₀ out : List ℤ} {k q n i u left : ℕ} {m : Bool} {d : ℕ} (g : Repeating out₀ out k q n i u left m d) (l : 0 < left) where
  one_less : left ≡ suc (left - 1)
  one_less = omega arith

  further : Reaches m d 1 u × Reaches m d (left - 1) (moved m d u)
  further = reach_next m d (left - 1) u (subst (λ (x : ℕ). Reaches m d x u) one_less g.reach)

  pub repeat_reach : Reaches m d 1 u
  repeat_reach = further.0

  pub repeat_small : (v : ℕ) → v ≡ moved m d u → v < 4294967296
  repeat_small v e = let y : d * 1 ≡ d = mul-one d in rw (e, ← y) (reach_small m d 1 u g.small repeat_reach)

  pub repeat_turn : (v : ℕ) → v ≡ moved m d u → (out' : List ℤ) → out' ≡ set out i (entry_for v) → Repeating out₀ out' k q n (i + 1) v (left - 1) m d
  repeat_turn v e out' f =
      let c = g.count in
      record {
        stored = rw (f, add-one i, e) (subst (λ (x : ℕ). sets out i (map entry_for (copies x (By m d) u)) ≡ sets out₀ k (map entry_for (copies n (By m d) q))) one_less g.stored);
        reach = rw e further.1;
        small = repeat_small v e;
        count = omega arith;
        same = rw f (length-set out i (entry_for v)) ∙ g.same;
      }
