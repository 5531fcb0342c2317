-- 02, T-07: "Labels are compared within their own block only", said as the code does it: a scan of the block's labels by places, which counts how deep it stands in inner blocks.
use Rattle.std.specs.Prelude.{◌≡◌, Bool, true, ℕ, zero, suc, ◌+◌, ◌<◌, ◌≤◌, ltb, eqb}
use Rattle.std.proofs.Math.Path.{refl, ap}
use Rattle.std.proofs.Common.{◌∙◌, arith}
use Rattle.std.proofs.Math.Bool.{false}
use mathlib.Core.List.{List, [], ◌∷◌, ◌++◌}
use borrow.Author.Tests.{lt-ltb, le-ltb, ne_eqb}
use Rattle.terms.specs.Logic.{pick, both}
use Rattle.label_spec.specs.Names.{sames, TITLE, END}
use Rattle.label_spec.specs.Labels.{Walk, over, bad, label, from}
use Rattle.label_spec.specs.File.{member, twice}

-- END leaves an inner block.
abbrev pub leave : (ℕ → Bool) → ℕ → Bool
leave K zero = false
leave K (suc d) = K d

-- One label with the name v, d blocks down: K is the rest.
unfoldable pub meet : (ℕ → Bool) → List ℕ → List ℕ → ℕ → Bool
meet K w v d = pick (sames v END) (leave K d) (pick (sames v TITLE) (K (suc d)) (pick (both (eqb d 0) (sames v w)) true (K d)))

-- Does a label of the block's own before the place m have the name w? The scan stands d blocks down; a bad label is passed over.
unfoldable pub own_known : ℕ → List ℕ → Walk → ℕ → Bool
own_known m w over d = false
own_known m w (bad x rest) d = pick (ltb x m) (own_known m w rest d) false
own_known m w (label x n e v rest) d = pick (ltb x m) (meet (own_known m w rest) w v d) false

-- Empty names are excepted.
unfoldable pub own_clash : ℕ → List ℕ → Walk → Bool
own_clash m [] k = false
own_clash m (b ∷ w) k = own_known m (b ∷ w) k 0

-- A block from after its TITLE's `=` at e to its END's `=` at q: a scan that stands in it leaves it there.
pub record Skips (s : List ℕ) (e q : ℕ) : Type 0 where
  pub law : (y : ℕ) (w : List ℕ) (d : ℕ) → q < y → own_known y w (from s (e + 1) false) (suc d) ≡ own_known y w (from s (q + 1) false) d

-- The labels before i had these names.
pub record Scanned (s : List ℕ) (e i : ℕ) (names : List (List ℕ)) : Type 0 where
  pub own : (y : ℕ) (w : List ℕ) → i ≤ y → own_known y w (from s (e + 1) false) 0 ≡ pick (member w names) true (own_known y w (from s i false) 0)
  pub inner : (y : ℕ) (w : List ℕ) (d : ℕ) → i ≤ y → own_known y w (from s (e + 1) false) (suc d) ≡ own_known y w (from s i false) (suc d)

pub scan_begin : (s : List ℕ) (e : ℕ) → Scanned s e (e + 1) []
unfolding member
scan_begin s e = record { own = λ y w h. refl; inner = λ y w d h. refl }

member_more : (w v : List ℕ) (names : List (List ℕ)) (t : Bool) → pick (member w names) true (pick (sames v w) true t) ≡ pick (member w (names ++ v ∷ [])) true t
unfolding member
member_more w v [] t = cases (sames v w)
  where
    cases : (b : Bool) → pick b true t ≡ pick (pick b true false) true t
    cases true = refl
    cases false = refl
member_more w v (u ∷ names) t = cases (sames u w) (member_more w v names t)
  where
    cases : (b : Bool) → pick (member w names) true (pick (sames v w) true t) ≡ pick (member w (names ++ v ∷ [])) true t
        → pick (pick b true (member w names)) true (pick (sames v w) true t) ≡ pick (pick b true (member w (names ++ v ∷ []))) true t
    cases true h = refl
    cases false h = h

module _ (s : List ℕ) (e i : ℕ) (names : List (List ℕ)) (inv : Scanned s e i names) (x n q : ℕ) (v : List ℕ)
    (f : from s i false ≡ label x n q v (from s (q + 1) false)) (low : i ≤ x) (high : x < q) where
  here : (y : ℕ) (w : List ℕ) (d : ℕ) → q < y → own_known y w (from s i false) d ≡ meet (own_known y w (from s (q + 1) false)) w v d
  unfolding own_known
  here y w d h = rw (f, lt-ltb x y (omega arith)) refl

  -- The comparison that 23 asks for.
  pub clash_is : own_clash x v (from s (e + 1) false) ≡ twice v names
  unfolding own_clash twice
  clash_is = cases v refl
    where
      last : (w : List ℕ) → own_known x w (from s i false) 0 ≡ false
      last w = ap (λ (k : Walk). own_known x w k 0) f ∙ (unfold own_known in rw (le-ltb x x (omega arith)) refl)

      true_or : (b : Bool) → pick b true false ≡ b
      true_or true = refl
      true_or false = refl

      cases : (w : List ℕ) → v ≡ w → own_clash x w (from s (e + 1) false) ≡ twice w names
      cases [] g = refl
      cases (b ∷ w) g = inv.own x (b ∷ w) low ∙ rw (last (b ∷ w)) (true_or (member (b ∷ w) names))

  -- END
  pub scan_end : sames v END ≡ true → Skips s e q
  unfolding meet
  scan_end g = record { law = λ y w d h. inv.inner y w d (omega arith) ∙ (here y w (suc d) h ∙ rw g refl) }

  module _ (g : sames v END ≡ false) where
    -- An inner block whose END's `=` stands at p.
    pub scan_inner : (p : ℕ) → q < p → sames v TITLE ≡ true → Skips s q p → Scanned s e (p + 1) names
    unfolding meet
    scan_inner p l t k =
        record {
          own = λ y w h. inv.own y w (omega arith) ∙ ap (pick (member w names) true) (here y w 0 (omega arith) ∙ rw (g, t) (k.law y w 0 (omega arith)));
          inner = λ y w d h. inv.inner y w d (omega arith) ∙ (here y w (suc d) (omega arith) ∙ rw (g, t) (k.law y w (suc d) (omega arith)));
        }

    -- A label of the block's own.
    pub scan_own : sames v TITLE ≡ false → Scanned s e (q + 1) (names ++ v ∷ [])
    unfolding meet
    scan_own t =
        record {
          own = λ y w h. inv.own y w (omega arith) ∙ (ap (pick (member w names) true) (here y w 0 (omega arith) ∙ rw (g, t) refl) ∙ member_more w v names (own_known y w (from s (q + 1) false) 0));
          inner = λ y w d h. inv.inner y w d (omega arith) ∙ (here y w (suc d) (omega arith) ∙ rw (g, t, ne_eqb (suc d) 0 (λ z. omega arith)) refl);
        }
