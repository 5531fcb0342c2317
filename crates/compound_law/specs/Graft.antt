-- A text that is cut off after a line's end: its walk is that of the longer text, up to there.
use Rattle.std.specs.Prelude.{◌≡◌, Bool, List, [], ◌∷◌, ◌++◌, ℕ, ◌+◌, ◌-◌, ◌≤◌, leb, eqb, take, Option, Some, None}
use Rattle.std.proofs.Math.Path.{refl}
use Rattle.std.proofs.Common.{ap, sym, ◌∙◌, arith, eqb-true}
use Rattle.std.proofs.Math.Bool.{true, false}
use Rattle.std.proofs.Math.ListN.{length}
use Rattle.std.proofs.lemmas.List.{take-append-le}
use Rattle.terms.specs.Logic.{pick}
use Rattle.label_spec.specs.Names.{blank, norm}
use Rattle.label_spec.specs.Labels.{Walk, over, bad, label, longest_name, eq_in, headed, step, walk}
use Rattle.compound_law.specs.Standing.{reached}

-- What follows a walk.
abbrev pub graft : Walk → Walk → Walk
graft over k = k
graft (bad x rest) k = bad x (graft rest k)
graft (label x n e v rest) k = label x n e v (graft rest k)

-- Does a text end with a line's end?
abbrev pub lined : List ℕ → Bool
lined [] = false
lined (b ∷ []) = eqb b 10
lined (b ∷ c ∷ u) = lined (c ∷ u)

pick_graft : (k : Walk) (t : Bool) (p q : Walk) → pick t (graft p k) (graft q k) ≡ graft (pick t p q) k
pick_graft k true p q = refl
pick_graft k false p q = refl

lined_rest : (c : ℕ) (u : List ℕ) → lined (c ∷ u) ≡ true → eqb c 10 ≡ false → lined u ≡ true
lined_rest c [] h n = cc
lined_rest c (d ∷ u) h n = h

eq_lined : (u w : List ℕ) (i : ℕ) → lined u ≡ true → eq_in (u ++ w) i ≡ eq_in u i
unfolding eq_in
eq_lined [] w i h = let z : ◌≡◌ {A = ℕ} 0 1 = cc in absurd (omega arith)
eq_lined (b ∷ u) w i h = cases (eq_lined u w (i + 1)) (eqb b 10) refl
  where
    cases : (lined u ≡ true → eq_in (u ++ w) (i + 1) ≡ eq_in u (i + 1)) → (t : Bool) → eqb b 10 ≡ t
        → pick (eqb b 61) (Some i) (pick t None (eq_in (u ++ w) (i + 1))) ≡ pick (eqb b 61) (Some i) (pick t None (eq_in u (i + 1)))
    cases k true e = refl
    cases k false e = rw (k (lined_rest b u h e)) refl

module _ (u w : List ℕ) (m n : ℕ) (k c : Walk) (h : lined u ≡ true) where
  headed_graft : (p : Option ℕ) → eq_in u n ≡ p → headed (u ++ w) m n (graft k c) p ≡ graft (headed u m n k p) c
  unfolding headed
  headed_graft None q = refl
  headed_graft (Some e) q =
      let r = reached u n e q in
      let z : e - n ≤ length u = omega (arith, r.high) in
      rw (take-append-le (e - n) u w z, pick_graft c (leb (length (norm (take (e - n) u))) longest_name) (label m n e (norm (take (e - n) u)) k) (bad m k)) refl

module _ (c : ℕ) (u w : List ℕ) (K J : Bool → Walk) (k : Walk) (same : (t : Bool) → K t ≡ graft (J t) k) (h : lined (c ∷ u) ≡ true) (i b : ℕ) where
  hash_graft : (q : Bool) → eqb c 35 ≡ q
      → pick (pick (eqb b 35) q false) (headed (u ++ w) i (i + 2) (K false) (eq_in (u ++ w) (i + 2))) (K (eqb b 10))
      ≡ graft (pick (pick (eqb b 35) q false) (headed u i (i + 2) (J false) (eq_in u (i + 2))) (J (eqb b 10))) k
  hash_graft true q =
      let f : c ≡ 35 = eqb-true c 35 q in
      let z : eqb c 10 ≡ false = rw f refl in
      let l = lined_rest c u h z in
      rw (same false, same (eqb b 10), eq_lined u w (i + 2) l, headed_graft u w i (i + 2) (J false) k l (eq_in u (i + 2)) refl) (pick_graft k (pick (eqb b 35) true false) _ _)
  hash_graft false q = alike (eqb b 35)
    where
      alike : (t : Bool) → pick (pick t false false) (headed (u ++ w) i (i + 2) (K false) (eq_in (u ++ w) (i + 2))) (K (eqb b 10))
          ≡ graft (pick (pick t false false) (headed u i (i + 2) (J false) (eq_in u (i + 2))) (J (eqb b 10))) k
      alike true = same (eqb b 10)
      alike false = same (eqb b 10)

  step_graft : (t : Bool) → step K ((c ∷ u) ++ w) i t b ≡ graft (step J (c ∷ u) i t b) k
  unfolding step
  step_graft false = same (eqb b 10)
  step_graft true = rw (same true, hash_graft (eqb c 35) refl) (pick_graft k (blank b) _ _)

last_graft : (w : List ℕ) (i b : ℕ) (t : Bool) → b ≡ 10 → walk (b ∷ w) i t ≡ walk w (i + 1) true
unfolding walk step blank
last_graft w i b true h = rw h refl
last_graft w i b false h = rw h refl

pub walk_graft : (u w : List ℕ) (i : ℕ) (t : Bool) → lined u ≡ true → walk (u ++ w) i t ≡ graft (walk u i t) (walk w (i + length u) true)
unfolding walk
walk_graft [] w i t h = let z : ◌≡◌ {A = ℕ} 0 1 = cc in absurd (omega arith)
walk_graft (b ∷ []) w i t h =
    let f : b ≡ 10 = eqb-true b 10 h in
    last_graft w i b t f ∙ ap (λ (a : Walk). graft a (walk w (i + 1) true)) (sym (last_graft [] i b t f))
walk_graft (b ∷ c ∷ u) w i t h =
    let z : i + length (b ∷ c ∷ u) ≡ i + 1 + length (c ∷ u) = omega arith in
    rw z (step_graft c u w (walk ((c ∷ u) ++ w) (i + 1)) (walk (c ∷ u) (i + 1)) (walk w (i + 1 + length (c ∷ u)) true)
    (λ q. walk_graft (c ∷ u) w (i + 1) q h) h i b t)
