-- What the writing of bytes one after the other needs. No place of the code is named here. Assumes nothing.
use mathlib.Core.Path.{◌≡◌, refl, ◌∙◌}
use mathlib.Core.List.{List, [], ◌∷◌}
use Prim.Native.Nat.{ℕ, suc, ◌+◌}
use native.Mathlib.Omega.{arith}
use native.Mathlib.Numerals.{add-one}
use lib.ListN.{set}
use Rattle.table_text.specs.Pieces.{Put}

-- bytes one after the other
module _ {o o₁ : List ℕ} (at a : ℕ) (e₁ : o₁ ≡ set o at a) where
  pub put_two : {o₂ : List ℕ} (b : ℕ) → o₂ ≡ set o₁ (at + 1) b → Put o at o₂ (at + 2) (a ∷ b ∷ [])
  put_two b e₂ = record { next = omega arith; stored = e₂ ∙ rw (e₁, add-one at) refl }

  pub put_three : {o₂ o₃ : List ℕ} (b c : ℕ) → o₂ ≡ set o₁ (at + 1) b → o₃ ≡ set o₂ (at + 2) c → Put o at o₃ (at + 3) (a ∷ b ∷ c ∷ [])
  put_three b c e₂ e₃ =
      let x : at + 1 ≡ suc at = omega arith in let y : at + 2 ≡ suc (suc at) = omega arith in
      record { next = omega arith; stored = e₃ ∙ rw (e₂, e₁, x, y) refl }

  pub put_four : {o₂ o₃ o₄ : List ℕ} (b c d : ℕ) → o₂ ≡ set o₁ (at + 1) b → o₃ ≡ set o₂ (at + 2) c → o₄ ≡ set o₃ (at + 3) d → Put o at o₄ (at + 4) (a ∷ b ∷ c ∷ d ∷ [])
  put_four b c d e₂ e₃ e₄ =
      let x : at + 1 ≡ suc at = omega arith in let y : at + 2 ≡ suc (suc at) = omega arith in let z : at + 3 ≡ suc (suc (suc at)) = omega arith in
      record { next = omega arith; stored = e₄ ∙ rw (e₃, e₂, e₁, x, y, z) refl }
