-- Digits that are spelled and the run that reading sees, both ways, once over the number of digits (01, "A digit run is always as long as it can be"). This one argument serves heads,
-- AFFN, SQZ, DIF, DUP, and the numbers of a file. Assumes nothing.
use Rattle.std.specs.Prelude.{◌≡◌, refl, false, List, [], ◌∷◌, ℕ, zero, suc, ◌+◌, ◌-◌, ◌*◌, ◌≤◌, ◌<◌, ltb, leb, get_or, drop}
use Rattle.std.proofs.Common.{sym, ap, ◌∙◌, subst, arith, add-zero, zero-add, add-suc, suc-add, ltb-true, leb-true}
use Rattle.terms.specs.Logic.{pick, by_case, zero_one, both_true}
use Rattle.alphabet_spec.specs.Digits.{within, Run, long, run, one_more, digits, some}
use Rattle.alphabet_spec.proofs.KindLaws.{digit_within}
use Rattle.alphabet_spec.specs.SpelledDigits.{SpelledDigits, none, more}

-- ---- spelled digits are the run that is read, where no further digit follows

-- the first byte of s, if there is one, is no digit
abbrev pub NoDigit : List ℕ → Type 0
NoDigit s = within 48 10 (get_or s 0 0) ≡ false

pub spelled_drop : {n v w : ℕ} {t s : List ℕ} → SpelledDigits n v w t s → drop n t ≡ s
spelled_drop none = refl
spelled_drop (more l x) = spelled_drop x

-- a first digit counts like the others: before it stands the number 0
pub first_digit : {n w d : ℕ} {t s : List ℕ} → d < 10 → SpelledDigits n d w t s → SpelledDigits (suc n) 0 w ((48 + d) ∷ t) s
first_digit {n} {w} {d} {t} {s} l r = let e : 0 * 10 + d ≡ d = omega arith in let f : SpelledDigits n (0 * 10 + d) w t s = rw e r in more l f

stopped : (s : List ℕ) (m v k : ℕ) → NoDigit s → digits s m v k ≡ run v k
unfolding digits
stopped [] m v k h = refl
stopped (b ∷ s) m v k h = rw h refl

pub digits_after : {n v w : ℕ} {t s : List ℕ} (m k : ℕ) → SpelledDigits n v w t s → NoDigit s → n ≤ m → digits t m v k ≡ run w (k + n)
unfolding digits
digits_after {v = v} {s = s} m k none h l = stopped s m v k h ∙ ap (run v) (sym (add-zero k))
digits_after zero k (more a x) h l = absurd (omega arith)
digits_after (suc m) k (more {n = n} {w = w} {d = d} a x) h l =
    let e : 48 + d - 48 ≡ d = omega arith in
    let y = digits_after m (suc k) x h (omega arith) in
    rw (digit_within d a, e) (y ∙ ap (run w) (suc-add k n ∙ sym (add-suc k n)))

pub digits_run : {n v w : ℕ} {t s : List ℕ} (m : ℕ) → SpelledDigits n v w t s → NoDigit s → n ≤ m → digits t m v 0 ≡ run w n
digits_run {n} {v} {w} m x h l = digits_after m 0 x h l ∙ ap (run w) (zero-add n)

-- at least one digit
some_run : (w n : ℕ) → 0 < n → some (run w n) ≡ run w n
some_run w zero h = absurd (omega arith)
some_run w (suc n) h = refl

pub digits_some : {n v w : ℕ} {t s : List ℕ} (m : ℕ) → SpelledDigits n v w t s → NoDigit s → 0 < n → n ≤ m → some (digits t m v 0) ≡ run w n
digits_some {n} {v} {w} m x h a l = ap some (digits_run m x h l) ∙ some_run w n a

-- ---- the run that is read is spelled digits

abbrev Spelt : List ℕ → ℕ → ℕ → ℕ → ℕ → ℕ → Type 0
Spelt t m v k w j = (n : ℕ) × (j ≡ k + n) × (n ≤ m) × SpelledDigits n v w t (drop n t)

ended : (t : List ℕ) (m v k w j : ℕ) → run v k ≡ run w j → Spelt t m v k w j
ended t m v k w j e =
    let a : v ≡ w = cc in
    let b : j ≡ k = cc in
    (0, b ∙ sym (add-zero k), omega arith, subst (λ (x : ℕ). SpelledDigits 0 v x t t) a none)

further : (b : ℕ) (t : List ℕ) (ih : (m v k w j : ℕ) → digits t m v k ≡ run w j → Spelt t m v k w j) (m v k w j : ℕ)
    → 48 ≤ b → b < 58 → one_more (digits t) m v k (b - 48) ≡ run w j → Spelt (b ∷ t) m v k w j
further b t ih zero v k w j l h e = zero_one cc
further b t ih (suc m) v k w j l h e =
    let x = ih m (v * 10 + (b - 48)) (suc k) w j e in
    let n = x.0 in
    let p : 48 + (b - 48) ≡ b = omega arith in
    let q : b - 48 < 10 = omega arith in
    (suc n, omega (arith, x.1), omega (arith, x.2), subst (λ (c : ℕ). SpelledDigits (suc n) v w (c ∷ t) (drop n t)) p (more q x.3))

spelt : (t : List ℕ) (m v k w j : ℕ) → digits t m v k ≡ run w j → Spelt t m v k w j
unfolding digits
spelt [] m v k w j = ended [] m v k w j
spelt (b ∷ t) m v k w j =
    by_case (λ q. within 48 10 b ≡ q → pick q (one_more (digits t) m v k (b - 48)) (run v k) ≡ run w j → Spelt (b ∷ t) m v k w j) (within 48 10 b)
    (λ _ h e. let x = both_true (leb 48 b) (ltb b 58) h in further b t (spelt t) m v k w j (leb-true 48 b x.0) (ltb-true b 58 x.1) e)
    (λ _ h e. ended (b ∷ t) m v k w j e) refl

pub run_spelled : (t : List ℕ) (m v w n : ℕ) → digits t m v 0 ≡ run w n → (n ≤ m) × SpelledDigits n v w t (drop n t)
run_spelled t m v w n e =
    let x = spelt t m v 0 w n e in
    let p : x.0 ≡ n = omega (arith, x.1) in
    (omega (arith, x.2), subst (λ (k : ℕ). SpelledDigits k v w t (drop k t)) p x.3)

-- the same of any run: at most m digits after the number v
abbrev pub Follows : ℕ → ℕ → List ℕ → Run → Type 0
Follows m v s long = Unit {0}
Follows m v s (run w k) = (k ≤ m) × SpelledDigits k v w s (drop k s)

pub follows : (s : List ℕ) (m v : ℕ) → Follows m v s (digits s m v 0)
follows s m v = of_run (digits s m v 0) refl
  where
    of_run : (x : Run) → digits s m v 0 ≡ x → Follows m v s x
    of_run long e = tt
    of_run (run w k) e = run_spelled s m v w k e

-- at least one digit, at most m
abbrev pub Begins : ℕ → List ℕ → Run → Type 0
Begins m s long = Unit {0}
Begins m s (run w k) = (0 < k) × (k ≤ m) × SpelledDigits k 0 w s (drop k s)

begun : (m : ℕ) (s : List ℕ) (x : Run) → Follows m 0 s x → Begins m s (some x)
begun m s long r = tt
begun m s (run w zero) r = tt
begun m s (run w (suc k)) r = (omega arith, r.0, r.1)

pub begins : (s : List ℕ) (m : ℕ) → Begins m s (some (digits s m 0 0))
begins s m = begun m s (digits s m 0 0) (follows s m 0)
