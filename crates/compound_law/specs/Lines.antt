-- A text cut off after a line's end, at the end of the line of a given place.
use Rattle.std.specs.Prelude.{◌≡◌, refl, Bool, true, false, ◌⊎◌, ℕ, zero, suc, ◌+◌, ◌-◌, ◌<◌, ◌≤◌, eqb, take, drop}
use Rattle.std.proofs.Math.Path.{ap}
use Rattle.std.proofs.Common.{sym, ◌∙◌, inl, inr, take-append-drop, length-take, take-add, drop-drop}
use mathlib.Core.List.{List, [], ◌∷◌, ◌++◌, append-nil}
use native.Mathlib.Omega.{arith}
use Rattle.std.proofs.Math.ListN.{length, length-drop}
use Rattle.std.proofs.lemmas.List.{drop-append-le, take-append-le}
use Rattle.terms.specs.Logic.{pick}
use Rattle.label_spec.specs.Labels.{Walk, over, bad, label, walk, from}
use Rattle.compound_spec.specs.Cut.{rest_of_line}
use Rattle.compound_law.specs.Shift.{shift, walk_shift}
use Rattle.compound_law.specs.Graft.{graft, lined, walk_graft}

-- The text r is u and then w, and u ends with a line's end, or all is in u.
pub record Cut (r u w : List ℕ) : Type 0 where
  pub parts : r ≡ u ++ w
  pub ends : (lined u ≡ true) ⊎ (w ≡ [])

lined_cons : (b : ℕ) (u : List ℕ) → lined u ≡ true → lined (b ∷ u) ≡ true
lined_cons b [] h = let z : ◌≡◌ {A = ℕ} 0 1 = cc in absurd (omega arith)
lined_cons b (c ∷ u) h = h

lined_append : (p u : List ℕ) → lined u ≡ true → lined (p ++ u) ≡ true
lined_append [] u h = h
lined_append (b ∷ p) u h = lined_cons b (p ++ u) (lined_append p u h)

pub lined_drop : (k : ℕ) (u : List ℕ) → lined u ≡ true → k < length u → lined (drop k u) ≡ true
lined_drop zero u h l = h
lined_drop (suc k) [] h l = absurd (omega arith)
lined_drop (suc k) (b ∷ []) h l = absurd (omega arith)
lined_drop (suc k) (b ∷ c ∷ u) h l = lined_drop k (c ∷ u) h (omega arith)

line_cut : (l : List ℕ) → (lined (take (rest_of_line l) l) ≡ true) ⊎ (drop (rest_of_line l) l ≡ [])
unfolding rest_of_line
line_cut [] = inr refl
line_cut (b ∷ l) = cases (eqb b 10) refl (line_cut l)
  where
    cases : (t : Bool) → eqb b 10 ≡ t → (lined (take (rest_of_line l) l) ≡ true) ⊎ (drop (rest_of_line l) l ≡ [])
        → (lined (take (pick t 1 (suc (rest_of_line l))) (b ∷ l)) ≡ true) ⊎ (drop (pick t 1 (suc (rest_of_line l))) (b ∷ l) ≡ [])
    cases true e h = inl e
    cases false e (inl h) = inl (lined_cons b (take (rest_of_line l) l) h)
    cases false e (inr h) = inr h

line_some : (l : List ℕ) → 0 < length l → 0 < rest_of_line l
unfolding rest_of_line
line_some [] h = absurd (omega arith)
line_some (b ∷ l) h = cases (eqb b 10)
  where
    cases : (t : Bool) → 0 < pick t 1 (suc (rest_of_line l))
    cases true = omega arith
    cases false = omega arith

line_fits : (l : List ℕ) → rest_of_line l ≤ length l
unfolding rest_of_line
line_fits [] = omega arith
line_fits (b ∷ l) = cases (eqb b 10) (line_fits l)
  where
    cases : (t : Bool) → rest_of_line l ≤ length l → pick t 1 (suc (rest_of_line l)) ≤ length (b ∷ l)
    cases true h = omega arith
    cases false h = omega arith

-- Cut at the end of the line on which the place j stands.
pub cut_at : (r : List ℕ) (j : ℕ) → Cut r (take (j + rest_of_line (drop j r)) r) (drop (j + rest_of_line (drop j r)) r)
cut_at r j =
    record {
      parts = sym (take-append-drop (j + rest_of_line (drop j r)) r);
      ends = cases (line_cut (drop j r));
    }
  where
    cases : (lined (take (rest_of_line (drop j r)) (drop j r)) ≡ true) ⊎ (drop (rest_of_line (drop j r)) (drop j r) ≡ [])
        → (lined (take (j + rest_of_line (drop j r)) r) ≡ true) ⊎ (drop (j + rest_of_line (drop j r)) r ≡ [])
    cases (inl h) = inl (rw (take-add j (rest_of_line (drop j r)) r) (lined_append (take j r) (take (rest_of_line (drop j r)) (drop j r)) h))
    cases (inr h) = inr (rw (← drop-drop (rest_of_line (drop j r)) j r) h)

pub cut_holds : (r : List ℕ) (j : ℕ) → j < length r → j < length (take (j + rest_of_line (drop j r)) r)
cut_holds r j h =
    let d = length-drop j r in
    let a = line_some (drop j r) (omega arith) in
    let b = line_fits (drop j r) in
    rw (length-take (j + rest_of_line (drop j r)) r) (omega arith)

graft_over : (a : Walk) → graft a over ≡ a
graft_over over = refl
graft_over (bad x rest) = ap (bad x) (graft_over rest)
graft_over (label x n e v rest) = ap (label x n e v) (graft_over rest)

-- The walk over the text from a place on, and over the cut.
module _ (s : List ℕ) (m : ℕ) (u w : List ℕ) (c : Cut (drop m s) u w) where
  tail_is : (i : ℕ) → i ≤ length u → drop (m + i) s ≡ drop i u ++ w
  tail_is i h = sym (drop-drop i m s) ∙ rw c.parts (drop-append-le i u w h)

  pub same_text : (a b : ℕ) → a ≤ length u → b ≤ length u → take (m + b - (m + a)) (drop (m + a) s) ≡ take (b - a) (drop a u)
  same_text a b h g =
      let z : m + b - (m + a) ≡ b - a = omega arith in
      let d = length-drop a u in
      let y : b - a ≤ length (drop a u) = omega arith in
      rw (z, tail_is a h) (take-append-le (b - a) (drop a u) w y)

  joined : (i : ℕ) (t : Bool) → i < length u → (lined u ≡ true) ⊎ (w ≡ []) → walk (drop i u ++ w) i t ≡ graft (walk (drop i u) i t) (walk w (length u) true)
  unfolding walk
  joined i t h (inl g) =
      let d = length-drop i u in
      let z : length u ≡ i + length (drop i u) = omega arith in
      rw z (walk_graft (drop i u) w i t (lined_drop i u g h))
  joined i t h (inr g) = rw (g, append-nil (drop i u)) (sym (graft_over (walk (drop i u) i t)))

  pub cut_walk : (i : ℕ) (t : Bool) → i < length u → from s (m + i) t ≡ shift m (graft (from u i t) (walk w (length u) true))
  unfolding from
  cut_walk i t h = rw (tail_is i (omega arith)) (walk_shift m (drop i u ++ w) i t ∙ ap (shift m) (joined i t h c.ends))
