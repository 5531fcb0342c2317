-- A refusal as it is told, and numbers stored one after the other: no place of the code is named here.
use mathlib.Core.Path.{◌≡◌, refl, sym, ◌∙◌}
use mathlib.Core.Bool.{Bool}
use mathlib.Core.List.{List, [], ◌∷◌}
use Prim.Native.Nat.{ℕ, suc, ◌+◌, ◌<◌, ◌≤◌}
use native.Mathlib.Numerals.{add-one}
use native.Mathlib.Omega.{arith}
use lib.ListN.{length, get_or, drop, set, length-set, drop_of_length-le}
use lib.Seq.{sets, set_out, drop-cons}
use Rattle.terms.specs.Logic.{pick}
use Rattle.terms.specs.Refusals.{refusal_in}
use Rattle.terms.specs.declared.Refusal.{Refusal}
use Rattle.profile_spec.specs.Profile.{refuse_profile, told_profile}
use Rattle.std.specs.Prelude.{Err}
use Rattle.profile_spec.specs.Parts.{page_refusal}

-- ---- `refuse`

pub refuse_is : (s p : List ℕ) (q : Bool) (c a : ℕ) (t : Bool) → q ≡ t → (r : Refusal) → r ≡ refusal_in (pick t p s) c a → Err (page_refusal t r) ≡ told_profile s p (refuse_profile q c a)
refuse_is s p q c a t e r h = rw (e, h) refl

-- ---- `store_numbers`

-- the numbers from i on are still to be stored
abbrev pub Storing : List ℕ → List ℕ → List ℕ → ℕ → Type 0
Storing ns out₀ out i = (length out ≡ length out₀) × (sets out₀ 0 ns ≡ sets out i (drop i ns))

sets_out : (vs l : List ℕ) (i : ℕ) → length l ≤ i → sets l i vs ≡ l
sets_out [] l i h = refl
sets_out (v ∷ vs) l i h = rw (set_out l i v h) (sets_out vs l (suc i) (omega arith))

module _ (ns out₀ out : List ℕ) (i : ℕ) (c : Storing ns out₀ out i) where
  pub storing_full : length out ≤ i → out ≡ sets out₀ 0 ns
  storing_full h = sym (c.1 ∙ sets_out (drop i ns) out i h)

  pub storing_done : length ns ≤ i → out ≡ sets out₀ 0 ns
  storing_done h = sym (c.1 ∙ rw (drop_of_length-le ns h) refl)

  pub storing_on : i < length ns → Storing ns out₀ (set out i (get_or ns i 0)) (i + 1)
  storing_on h = (length-set out i (get_or ns i 0) ∙ c.0, c.1 ∙ rw (drop-cons ns i 0 h, add-one i) refl)
