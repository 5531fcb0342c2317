-- Each label of a walk stands in the file where it says, and what follows it is the walk from after its `=` on.
use Rattle.std.specs.Prelude.{◌≡◌, Bool, List, [], ◌∷◌, ℕ, zero, suc, ◌+◌, ◌-◌, ◌<◌, ◌≤◌, ltb, eqb, length, get_or, take, drop, Option, Some, None}
use Rattle.std.proofs.Math.Path.{refl}
use Rattle.std.proofs.Common.{◌∙◌, add_assoc, arith, drop-drop, ltb-true, ltb-false, eqb-true}
use Rattle.std.proofs.Math.Bool.{true, false}
use Rattle.std.proofs.Math.Dec.{leb}
use Rattle.std.proofs.Math.ListN.{length-drop}
use Rattle.std.proofs.lemmas.Bool.{eqb-false}
use Rattle.terms.specs.Logic.{pick}
use Rattle.label_spec.specs.Names.{blank, norm}
use Rattle.label_spec.specs.Labels.{Walk, over, bad, label, longest_name, eq_in, headed, step, walk, from, hashed}
use Rattle.label_spec.specs.LabelLaws.{eq_at, from_end, skip_on, skip_line, blank_on, no_label, label_is, hash_in}

-- An `=` found from the place j on: the walk passes over all up to it.
pub record Reached (l : List ℕ) (j e : ℕ) : Type 0 where
  pub low : j ≤ e
  pub high : e < j + length l
  pub on : walk l j false ≡ walk (drop (e + 1 - j) l) (e + 1) false

reached_here : (l : List ℕ) (b j : ℕ) → b ≡ 61 → Reached (b ∷ l) j j
unfolding walk step
reached_here l b j h =
    let z : j + 1 - j ≡ 1 = omega arith in
    record { low = omega arith; high = omega arith; on = rw (z, h) refl }

walk_on : (l : List ℕ) (b j : ℕ) → walk (b ∷ l) j false ≡ walk l (j + 1) (eqb b 10)
unfolding walk step
walk_on l b j = refl

reached_on : (l : List ℕ) (b j e : ℕ) → eqb b 10 ≡ false → Reached l (j + 1) e → Reached (b ∷ l) j e
reached_on l b j e h r =
    let z : e + 1 - j ≡ suc (e + 1 - (j + 1)) = omega (arith, r.low) in
    record { low = omega (arith, r.low); high = omega (arith, r.high); on = rw (walk_on l b j, h, z) r.on }

pub reached : (l : List ℕ) (j e : ℕ) → eq_in l j ≡ Some e → Reached l j e
unfolding eq_in
reached [] j e h = absurd (let z : ◌≡◌ {A = ℕ} 0 1 = cc in omega arith)
reached (b ∷ l) j e h = first (reached l (j + 1) e) (eqb b 61) refl h
  where
    second : (eq_in l (j + 1) ≡ Some e → Reached l (j + 1) e) → (t : Bool) → eqb b 10 ≡ t → pick t None (eq_in l (j + 1)) ≡ Some e → Reached (b ∷ l) j e
    second k true q g = absurd (let z : ◌≡◌ {A = ℕ} 0 1 = cc in omega arith)
    second k false q g = reached_on l b j e q (k g)

    first : (eq_in l (j + 1) ≡ Some e → Reached l (j + 1) e) → (t : Bool) → eqb b 61 ≡ t → pick t (Some j) (pick (eqb b 10) None (eq_in l (j + 1))) ≡ Some e → Reached (b ∷ l) j e
    first k true q g = let z : j ≡ e = cc in rw (← z) (reached_here l b j (eqb-true b 61 q))
    first k false q g = second k (eqb b 10) refl g

-- A label of the file s.
pub record Standing (s : List ℕ) (x n e : ℕ) (v : List ℕ) (rest : Walk) : Type 0 where
  pub hash : hashed s x ≡ true
  pub at : from s x true ≡ label x n e v rest
  pub on : rest ≡ from s (e + 1) false
  pub low : x + 2 ≤ e
  pub high : e < length s

abbrev pub Sound : List ℕ → Walk → Type 0
Sound s over = Unit
Sound s (bad x rest) = Sound s rest
Sound s (label x n e v rest) = Standing s x n e v rest × Sound s rest

-- The second byte of a `##` ends no line.
right : (t u : Bool) → pick t u false ≡ true → u ≡ true
right true u e = e
right false u e = cc

second : (s : List ℕ) (i : ℕ) → hashed s i ≡ true → get_or s (i + 1) 0 ≡ 10 → ⊥
unfolding hashed
second s i y e = omega (arith, eqb-true (get_or s (i + 1) 0) 35 (right (eqb (get_or s i 0) 35) (eqb (get_or s (i + 1) 0) 35) y))

-- Where the list starts at i + 2, the same in terms of the file.
reached_at : (s : List ℕ) (i e : ℕ) → eq_at s i ≡ Some e → (i ≤ e) × (e < i + length (drop i s)) × (from s i false ≡ from s (e + 1) false)
unfolding eq_at from
reached_at s i e h =
    let r = reached (drop i s) i e h in
    let z : i + (e + 1 - i) ≡ e + 1 = omega (arith, r.low) in
    (r.low, r.high, r.on ∙ rw (drop-drop (e + 1 - i) i s, z) refl)

module _ (s : List ℕ) (i : ℕ) (y : hashed s i ≡ true) (ih : (t : Bool) → Sound s (from s (i + 1) t)) where
  past_hash : from s (i + 1) false ≡ from s (i + 2) false
  past_hash = rw (← add_assoc i 1 1) (skip_on s (i + 1) (hash_in s i y) (second s i y))

  label_sound : (p : Option ℕ) → eq_at s (i + 2) ≡ p → Sound s (headed (drop (i + 2) s) i (i + 2) (from s (i + 1) false) p)
  unfolding headed
  label_sound None q = ih false
  label_sound (Some e) q = by_length (leb (length (norm (take (e - (i + 2)) (drop (i + 2) s)))) longest_name) refl
    where
      by_length : (t : Bool) → leb (length (norm (take (e - (i + 2)) (drop (i + 2) s)))) longest_name ≡ t
          → Sound s (pick t (label i (i + 2) e (norm (take (e - (i + 2)) (drop (i + 2) s))) (from s (i + 1) false)) (bad i (from s (i + 1) false)))
      by_length true g =
          let r = reached_at s (i + 2) e q in
          let d = length-drop (i + 2) s in
          (record { hash = y; at = label_is s i y ∙ rw (q, g) refl; on = past_hash ∙ r.2; low = r.0; high = omega (arith, r.1, d) }, ih false)
      by_length false g = ih false

module _ (s : List ℕ) (i : ℕ) (h : i < length s) (ih : (t : Bool) → Sound s (from s (i + 1) t)) where
  line_sound : Sound s (from s i false)
  line_sound = cases (eqb (get_or s i 0) 10) refl
    where
      cases : (t : Bool) → eqb (get_or s i 0) 10 ≡ t → Sound s (from s i false)
      cases true e = rw (skip_line s i h (eqb-true (get_or s i 0) 10 e)) (ih true)
      cases false e = rw (skip_on s i h (eqb-false (get_or s i 0) 10 e)) (ih false)

  head_sound : Sound s (from s i true)
  head_sound = blanks (blank (get_or s i 0)) refl
    where
      marks : (u : Bool) → blank (get_or s i 0) ≡ false → hashed s i ≡ u → Sound s (from s i true)
      marks true e f = rw (label_is s i f) (label_sound s i f ih (eq_at s (i + 2)) refl)
      marks false e f = rw (no_label s i h e f) (line_sound)

      blanks : (t : Bool) → blank (get_or s i 0) ≡ t → Sound s (from s i true)
      blanks true e = rw (blank_on s i h e) (ih true)
      blanks false e = marks (hashed s i) e refl

  both_sound : (t : Bool) → Sound s (from s i t)
  both_sound true = head_sound
  both_sound false = line_sound

sound_end : (s : List ℕ) (i : ℕ) (t : Bool) → length s ≤ i → Sound s (from s i t)
sound_end s i t h = rw (from_end s i t h) tt

sound_for : (s : List ℕ) (n i : ℕ) (t : Bool) → length s ≤ i + n → Sound s (from s i t)
sound_for s zero i t h = sound_end s i t (omega arith)
sound_for s (suc n) i t h = cases (sound_for s n (i + 1)) (ltb i (length s)) refl
  where
    cases : ((u : Bool) → length s ≤ i + 1 + n → Sound s (from s (i + 1) u)) → (t' : Bool) → ltb i (length s) ≡ t' → Sound s (from s i t)
    cases k true e = both_sound s i (ltb-true i (length s) e) (λ u. k u (omega arith)) t
    cases k false e = sound_end s i t (ltb-false i (length s) e)

-- The theorem.
pub sound : (s : List ℕ) (i : ℕ) (t : Bool) → Sound s (from s i t)
sound s i t = sound_for s (length s) i t (omega arith)
