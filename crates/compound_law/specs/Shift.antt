-- A text that stands further on in a file: its walk is the same, each place further on.
use Rattle.std.specs.Prelude.{◌≡◌, Bool, List, [], ◌∷◌, ℕ, ◌+◌, ◌-◌, leb, eqb, length, get_or, take, drop, Option, Some, None}
use Rattle.std.proofs.Math.Path.{refl}
use Rattle.std.proofs.Math.Bool.{true, false}
use Rattle.std.proofs.Math.Nat.{add_assoc}
use Rattle.std.proofs.Common.{arith}
use Rattle.terms.specs.Logic.{pick}
use Rattle.label_spec.specs.Names.{blank, norm}
use Rattle.label_spec.specs.Labels.{Walk, over, bad, label, longest_name, eq_in, headed, step, walk, from}

-- Each place further on by d.
abbrev pub shift : ℕ → Walk → Walk
shift d over = over
shift d (bad x rest) = bad (d + x) (shift d rest)
shift d (label x n e v rest) = label (d + x) (d + n) (d + e) v (shift d rest)

abbrev spot : ℕ → Option ℕ → Option ℕ
spot d None = None
spot d (Some e) = Some (d + e)

pick_spot : (d : ℕ) (t : Bool) (p q : Option ℕ) → pick t (spot d p) (spot d q) ≡ spot d (pick t p q)
pick_spot d true p q = refl
pick_spot d false p q = refl

pick_shift : (d : ℕ) (t : Bool) (p q : Walk) → pick t (shift d p) (shift d q) ≡ shift d (pick t p q)
pick_shift d true p q = refl
pick_shift d false p q = refl

eq_shift : (d : ℕ) (l : List ℕ) (i : ℕ) → eq_in l (d + i) ≡ spot d (eq_in l i)
unfolding eq_in
eq_shift d [] i = refl
eq_shift d (b ∷ l) i =
    rw (add_assoc d i 1, eq_shift d l (i + 1), pick_spot d (eqb b 10) None (eq_in l (i + 1)), pick_spot d (eqb b 61) (Some i) (pick (eqb b 10) None (eq_in l (i + 1)))) refl

headed_shift : (d : ℕ) (l : List ℕ) (m n : ℕ) (k : Walk) (p : Option ℕ) → headed l (d + m) (d + n) (shift d k) (spot d p) ≡ shift d (headed l m n k p)
unfolding headed
headed_shift d l m n k None = refl
headed_shift d l m n k (Some e) =
    let z : d + e - (d + n) ≡ e - n = omega arith in
    rw (z, pick_shift d (leb (length (norm (take (e - n) l))) longest_name) (label m n e (norm (take (e - n) l)) k) (bad m k)) refl

module _ (d : ℕ) (K J : Bool → Walk) (same : (u : Bool) → K u ≡ shift d (J u)) (l : List ℕ) (i b : ℕ) where
  step_shift : (t : Bool) → step K l (d + i) t b ≡ shift d (step J l i t b)
  unfolding step
  step_shift false = same (eqb b 10)
  step_shift true =
      rw (
        same true,
        same false,
        same (eqb b 10),
        add_assoc d i 2,
        eq_shift d (drop 1 l) (i + 2),
        headed_shift d (drop 1 l) i (i + 2) (J false) (eq_in (drop 1 l) (i + 2)),
        pick_shift d (pick (eqb b 35) (eqb (get_or l 0 0) 35) false) (headed (drop 1 l) i (i + 2) (J false) (eq_in (drop 1 l) (i + 2))) (J (eqb b 10)),
        pick_shift d (blank b) (J true) (pick (pick (eqb b 35) (eqb (get_or l 0 0) 35) false) (headed (drop 1 l) i (i + 2) (J false) (eq_in (drop 1 l) (i + 2))) (J (eqb b 10))),
      ) refl

pub walk_shift : (d : ℕ) (l : List ℕ) (i : ℕ) (t : Bool) → walk l (d + i) t ≡ shift d (walk l i t)
unfolding walk
walk_shift d [] i t = refl
walk_shift d (b ∷ l) i t =
    rw (add_assoc d i 1) (step_shift d (walk l (d + (i + 1))) (walk l (i + 1)) (walk_shift d l (i + 1)) l i b t)

-- The walk from a place on is that of the rest of the file.
pub from_shift : (s : List ℕ) (d i : ℕ) (t : Bool) → walk (drop i (drop d s)) (d + i) t ≡ shift d (from (drop d s) i t)
unfolding from
from_shift s d i t = walk_shift d (drop i (drop d s)) i t
