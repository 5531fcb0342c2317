-- Reading a run of digits has one answer (01, "What the contracts say"): two that meet the contract on one text, at one place, are equal. Assumes nothing.
use Rattle.std.specs.Prelude.{◌≡◌, List, [], ◌∷◌, ℕ, zero, suc, ◌+◌, ◌-◌, ◌*◌, ◌≤◌, ◌<◌, length, drop}
use Rattle.std.proofs.Common.{sym, ap, ◌∙◌, arith, length-drop}
use Rattle.terms.specs.Logic.{pick, by_case}
use Rattle.alphabet_spec.specs.Digits.{within, run, digits}
use Rattle.alphabet_spec.specs.Entries.{entry_at}
use Rattle.alphabet.specs.Ran.{Ran}
use Rattle.alphabet.specs.Standing.{standing}
use Rattle.alphabet.specs.declared.Run.{Run}

-- the place: up to it stand digits, and at it none does, or as many as may have been taken
no_further : {s : List ℕ} {i v most w j e u k f : ℕ} → Ran s i v most w j e → Ran s i v most u k f → j < k → ⊥
no_further {j = j} x y l = let d = y.all j x.low l in let z = x.stands in let m = x.full (omega arith) in let n = y.few in omega arith

-- the number: what the digits that follow make of two numbers differs as the numbers do
number_back : (s : List ℕ) (m w u n : ℕ) → length s ≤ m → digits s m w n ≡ digits s m u n → w ≡ u
unfolding digits
number_back [] m w u n l e = cc
number_back (b ∷ s) zero w u n l e = absurd (omega arith)
number_back (b ∷ s) (suc m) w u n l e =
    by_case (λ t. pick t (digits s m (w * 10 + (b - 48)) (suc n)) (run w n) ≡ pick t (digits s m (u * 10 + (b - 48)) (suc n)) (run u n) → w ≡ u) (within 48 10 b)
    (λ _ h. let z = number_back s m (w * 10 + (b - 48)) (u * 10 + (b - 48)) (suc n) (omega arith) h in omega arith) (λ _ h. cc) e

ran_same : {s : List ℕ} {i v most w j e u k f : ℕ} → Ran s i v most w j e → Ran s i v most u k f → (w ≡ u) × (j ≡ k) × (e ≡ f)
ran_same {s} {i} {v} {most} {w} {j} {e} {u} {k} {f} x y =
    let a : j < k → ⊥ = no_further x y in let b : k < j → ⊥ = no_further y x in let p : j ≡ k = omega (arith, a, b) in
    let z : digits (drop j s) (length s) w (0 + (j - i)) ≡ digits (drop j s) (length s) u (0 + (j - i)) = sym (x.onward (length s) 0) ∙ rw p (y.onward (length s) 0) in
    (number_back (drop j s) (length s) w u (0 + (j - i)) (omega (arith, length-drop j s)) z, p, x.stands ∙ ap (entry_at s) p ∙ sym y.stands)

-- what reading a run of digits ensures
abbrev Answered : List ℕ → ℕ → ℕ → ℕ → Run → Type 0
Answered s i v most r = Ran s i v most r.v r.at (entry_at s r.at) × (r.b ≡ standing s r.at)

pub digits_unique : {s : List ℕ} {i v most : ℕ} (x y : Run) → Answered s i v most x → Answered s i v most y → x ≡ y
digits_unique {s} x y f g =
    let z = ran_same f.0 g.0 in let b : x.b ≡ y.b = f.1 ∙ ap (standing s) z.1 ∙ sym g.1 in λ t. record { v = z.0 t; at = z.1 t; b = b t }
