-- The labels of a text that stands from a place on stand from there on.
use Rattle.std.specs.Prelude.{Bool, true, false, List, [], ◌∷◌, ℕ, ◌+◌, ◌-◌, ◌≤◌, leb, eqb, length, get_or, take, drop, Option, Some, None}
use Rattle.std.proofs.Common.{arith}
use Rattle.terms.specs.Logic.{pick}
use Rattle.label_spec.specs.Names.{norm, blank}
use Rattle.label_spec.specs.Labels.{Walk, over, bad, label, longest_name, eq_in, headed, step, walk, from}

abbrev pub Above : ℕ → Walk → Type 0
Above lo over = Unit
Above lo (bad x rest) = (lo ≤ x) × Above lo rest
Above lo (label x n e v rest) = (lo ≤ x) × Above lo rest

looser : (a b : ℕ) (k : Walk) → a ≤ b → Above b k → Above a k
looser a b over h r = tt
looser a b (bad x rest) h r = (omega (arith, r.0), looser a b rest h r.1)
looser a b (label x n e v rest) h r = (omega (arith, r.0), looser a b rest h r.1)

pick_above : (t : Bool) (i : ℕ) (a b : Walk) → Above i a → Above i b → Above i (pick t a b)
pick_above true i a b x y = x
pick_above false i a b x y = y

headed_above : (s : List ℕ) (m n : ℕ) (k : Walk) (p : Option ℕ) → Above m k → Above m (headed s m n k p)
unfolding headed
headed_above s m n k None r = (omega arith, r)
headed_above s m n k (Some e) r = pick_above (leb (length (norm (take (e - n) s))) longest_name) m _ _ (omega arith, r) (omega arith, r)

step_above : (K : Bool → Walk) (s : List ℕ) (i : ℕ) (t : Bool) (b : ℕ) → ((u : Bool) → Above i (K u)) → Above i (step K s i t b)
unfolding step
step_above K s i false b h = h (eqb b 10)
step_above K s i true b h =
    pick_above (blank b) i _ _ (h true)
    (pick_above (pick (eqb b 35) (eqb (get_or s 0 0) 35) false) i _ _ (headed_above (drop 1 s) i (i + 2) (K false) (eq_in (drop 1 s) (i + 2)) (h false)) (h (eqb b 10)))

-- The theorem.
pub walk_above : (s : List ℕ) (i : ℕ) (t : Bool) → Above i (walk s i t)
unfolding walk
walk_above [] i t = tt
walk_above (b ∷ s) i t = step_above (walk s (i + 1)) s i t b (λ u. looser i (i + 1) (walk s (i + 1) u) (omega arith) (walk_above s (i + 1) u))

pub from_above : (s : List ℕ) (i : ℕ) (t : Bool) → Above i (from s i t)
unfolding from
from_above s i t = walk_above (drop i s) i t
