-- What the laws of labels, of records and of their texts share: a choice by a test, and the byte at a place. Assumes nothing.
use Rattle.std.specs.Prelude.{◌≡◌, refl, Bool, true, false, List, ℕ, get_or, drop}
use Rattle.std.proofs.Common.{◌∙◌, ap, add-zero, get_or-drop}
use Rattle.terms.specs.Logic.{pick}

-- What holds of both holds of the one that is chosen.
pub picked : {A : Type 0} (P : A → Type 0) (t : Bool) {a b : A} → P a → P b → P (pick t a b)
picked P true x y = x
picked P false x y = y

pub pick_same : {A : Type 0} (t : Bool) (a : A) → pick t a a ≡ a
pick_same {A} t a = picked (λ (x : A). x ≡ a) t refl refl

-- The first byte of what stands from the place k on.
pub first_byte : (s : List ℕ) (k : ℕ) → get_or (drop k s) 0 0 ≡ get_or s k 0
first_byte s k = get_or-drop k s 0 0 ∙ ap (λ (i : ℕ). get_or s i 0) (add-zero k)
