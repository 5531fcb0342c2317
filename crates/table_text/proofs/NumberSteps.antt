-- What the writing of a number needs. No place of the code is named here. Assumes nothing.
use mathlib.Core.Path.{◌≡◌, refl, ◌∙◌}
use mathlib.Core.List.{List, [], ◌∷◌}
use Prim.Native.Nat.{ℕ, zero, suc, ◌+◌, ◌≤◌}
use native.Mathlib.Omega.{arith}
use native.Mathlib.Numerals.{add-one}
use lib.ListN.{length, set}
use lib.Seq.{sets}
use Rattle.alphabet_spec.specs.Kinds.{dup}
use Rattle.table_spec.specs.Numerals.{top, low, lead_byte, numeral}
use Rattle.table_spec.specs.Groups.{dup_text}
use Rattle.table_text.specs.Digits.{further}
use Rattle.table_text.specs.DigitLaws.{length_low, further_le}
use Rattle.table_text.specs.Pieces.{Put, number, set_sets}

-- the bytes of a number
pub number_length : (base v : ℕ) → length (number base v) ≡ 1 + further 9 v
unfolding number
number_length base v = omega (arith, length_low 9 v)

-- a first byte, stored after the digits that follow it
module _ {o o₁ o₂ : List ℕ} (at v n b : ℕ) (e : n ≡ further 9 v) (e₁ : o₁ ≡ sets o (at + 1) (low 9 v [])) (e₂ : o₂ ≡ set o₁ at b) where
  lead_put : Put o at o₂ (at + 1 + n) (b ∷ low 9 v [])
  lead_put =
      record { next = omega (arith, length_low 9 v); stored = e₂ ∙ rw (e₁, set_sets o (at + 1) at b (low 9 v []) (omega arith), add-one at) refl }

  pub number_put : (base d : ℕ) → b ≡ base + d → d ≡ top 9 v → Put o at o₂ (at + 1 + n) (number base v) × (at + 1 + n ≤ at + 10)
  unfolding number
  number_put base d f g = ((rw (f, g) at lead_put), omega (arith, further_le 9 v))

  pub dup_put : (m d : ℕ) → (m ≡ 0 → ⊥) → v ≡ m + 1 → b ≡ lead_byte dup d → d ≡ top 9 v → Put o at o₂ (at + 1 + n) (dup_text m)
  dup_put m d h k f g = rw (dup_some m h, ← k) (numbered d f g)
    where
      numbered : (d : ℕ) → b ≡ lead_byte dup d → d ≡ top 9 v → Put o at o₂ (at + 1 + n) (numeral dup v)
      numbered d f g = unfold numeral in (rw (f, g) at lead_put)

      dup_some : (n : ℕ) → (n ≡ 0 → ⊥) → dup_text n ≡ numeral dup (n + 1)
      dup_some zero h = absurd (h refl)
      dup_some (suc n) h = unfold dup_text in rw (add-one (suc n)) refl

pub dup_none : (m : ℕ) → m ≡ 0 → dup_text m ≡ []
unfolding dup_text
dup_none m e = rw e refl

pub dup_length : (m n : ℕ) → (m ≡ 0 → ⊥) → n ≡ further 9 (m + 1) → n + 1 ≡ length (dup_text m)
unfolding dup_text numeral
dup_length zero n h e = absurd (h refl)
dup_length (suc m) n h e = let z : suc m + 1 ≡ suc (suc m) = omega arith in omega (arith, length_low 9 (suc (suc m)), rw z at e)
