-- What is spelled is read, and what is read is spelled: `number_at` and `count_at` say of a text what Spelling says of it. Assumes nothing.
use Rattle.std.specs.Prelude.{◌≡◌, Bool, List, ◌∷◌, ℕ, ◌+◌, ◌-◌, ◌≤◌, ◌<◌, ltb, drop, Option, Some, None}
use Rattle.std.proofs.Math.Path.{refl}
use Rattle.std.proofs.Common.{sym, ap, ◌∙◌, subst, arith, add-one, add-zero, drop-cons, get_or-drop, drop-drop, lt-ltb, eq-eqb, ne_eqb, ltb-true, eqb-true}
use Rattle.std.proofs.Math.Bool.{true, false}
use Rattle.std.proofs.Math.Dec.{eqb}
use Rattle.std.proofs.Math.ListN.{get_or}
use Rattle.terms.specs.Logic.{pick, both, by_case, some_same}
use Rattle.terms.specs.Places.{inside}
use Rattle.alphabet_spec.specs.Digits.{Run, long, run, digits}
use Rattle.alphabet_spec.specs.SpelledDigits.{SpelledDigits, none, more}
use Rattle.alphabet_spec.proofs.SpelledDigitLaws.{NoDigit, spelled_drop, digits_run, run_spelled}
use Rattle.decimal_spec.specs.Number.{bound, origin, mantissa_of, behind_point, before_point, mantissa_at, power_of, exponent_at, raised, unsigned, number_at, count_of, count_at}
use Rattle.decimal_spec.specs.Spelling.{SpelledMantissa, whole, pointed, SpelledExponent, absent, up, down, SpelledNumber, plain, plus, minus, SpelledCount, only}
use Rattle.decimal_spec.specs.declared.Mantissa.{Mantissa}
use Rattle.decimal_spec.specs.declared.Exponent.{Exponent}
use Rattle.decimal_spec.specs.declared.Number.{Number}
use Rattle.decimal_spec.specs.declared.Count.{Count}
use Rattle.decimal_spec.specs.Parts.{mantissa_with, exponent_with, number_with, count_with}

-- ---- places: t stands at the place i of s

at_first : (s : List ℕ) (i : ℕ) (t : List ℕ) → drop i s ≡ t → get_or s i 0 ≡ get_or t 0 0
at_first s i t e = ap (λ (k : ℕ). get_or s k 0) (sym (add-zero i)) ∙ sym (get_or-drop i s 0 0) ∙ ap (λ (l : List ℕ). get_or l 0 0) e

at_more : (s : List ℕ) (i n : ℕ) (t u : List ℕ) → drop i s ≡ t → drop n t ≡ u → drop (i + n) s ≡ u
at_more s i n t u e f = sym (drop-drop n i s) ∙ ap (λ (l : List ℕ). drop n l) e ∙ f

at_byte : (s : List ℕ) (i b : ℕ) → get_or s i 0 ≡ b → 0 < b → drop i s ≡ b ∷ drop (i + 1) s
at_byte s i b e h = drop-cons s i 0 (inside s i b e h) ∙ rw (e, add-one i) refl

at_two : (s : List ℕ) (i b c : ℕ) → get_or s i 0 ≡ b → get_or s (i + 1) 0 ≡ c → 0 < b → 0 < c → drop i s ≡ b ∷ c ∷ drop (i + 2) s
at_two s i b c e f h l = let p : i + 1 + 1 ≡ i + 2 = omega arith in at_byte s i b e h ∙ rw (at_byte s (i + 1) c f l, p) refl

-- ---- what is spelled is read

-- what may stand after a number, so that no byte more belongs to it
pub record Ends (s : List ℕ) : Type 0 where
  pub no_digit : NoDigit s
  pub no_point : get_or s 0 0 ≡ 46 → ⊥
  pub no_exponent : get_or s 0 0 ≡ 69 → ⊥

-- digits at a place
digits_read : {n v w : ℕ} {t u : List ℕ} (s : List ℕ) (i m : ℕ) → SpelledDigits n v w t u → drop i s ≡ t → NoDigit u → n ≤ m → digits (drop i s) m v 0 ≡ run w n
digits_read {v = v} s i m x e h l = ap (λ (l : List ℕ). digits l m v 0) e ∙ digits_run m x h l

mantissa_is : (v n f j : ℕ) → 0 < n → v < bound → mantissa_of v n f j ≡ Some (mantissa_with v f j)
unfolding mantissa_of
mantissa_is v n f j a b = rw (lt-ltb 0 n a, lt-ltb v bound b) refl

mantissa_read : {v f : ℕ} {t u : List ℕ} (s : List ℕ) (i : ℕ)
    → SpelledMantissa v f t u → drop i s ≡ t → NoDigit u → (get_or u 0 0 ≡ 46 → ⊥) → (j : ℕ) × (mantissa_at s i ≡ Some (mantissa_with v f j)) × (drop j s ≡ u)
unfolding mantissa_at before_point behind_point
mantissa_read {u = u} s i (whole {n = n} {v = v} {t = t} a b c x) e h p =
    let g = at_more s i n t u e (spelled_drop x) in
    let q = ne_eqb (get_or s (i + n) 0) 46 (λ z. p (sym (at_first s (i + n) u g) ∙ z)) in
    (i + n, rw (digits_read s i 12 x e h b, q) (mantissa_is v n 0 (i + n) a c), g)
mantissa_read {u = u} s i (pointed {n = n} {f = f} {w = w} {v = v} {t = t} {u = k} a b c x y) e h p =
    let g = at_more s i n t (46 ∷ k) e (spelled_drop x) in
    let q = eq-eqb (get_or s (i + n) 0) 46 (at_first s (i + n) (46 ∷ k) g) in
    let r = at_more s (i + n) 1 (46 ∷ k) k g refl in
    let l : n ≤ 12 = omega arith in
    let o : f ≤ 12 - n = omega arith in
    let j = i + n + 1 + f in
    (j, rw (digits_read s i 12 x e refl l, q, digits_read s (i + n + 1) (12 - n) y r h o) (mantissa_is v (n + f) f j a c), at_more s (i + n + 1) f k u r (spelled_drop y))

exponent_read : {p : ℕ} {t u : List ℕ} (s : List ℕ) (i : ℕ) → SpelledExponent p t u → drop i s ≡ t → Ends u → (j : ℕ) × (exponent_at s i ≡ Some (exponent_with p j)) × (drop j s ≡ u)
unfolding exponent_at power_of
exponent_read {u = u} s i absent e h = (i, rw (ne_eqb (get_or s i 0) 69 (λ z. h.no_exponent (sym (at_first s i u e) ∙ z))) refl, e)
exponent_read {u = u} s i (up {n = n} {x = x} {t = t} a b c d) e h =
    let g = at_more s i 1 (69 ∷ 43 ∷ t) (43 ∷ t) e refl in
    let r = at_more s i 2 (69 ∷ 43 ∷ t) t e refl in
    let q = eq-eqb (get_or s i 0) 69 (at_first s i (69 ∷ 43 ∷ t) e) in
    let o = eq-eqb (get_or s (i + 1) 0) 43 (at_first s (i + 1) (43 ∷ t) g) in
    (i + 2 + n, rw (q, o, digits_read s (i + 2) 3 d r h.no_digit b, lt-ltb 1 n a, lt-ltb x 100 c) refl, at_more s (i + 2) n t u r (spelled_drop d))
exponent_read {u = u} s i (down {n = n} {x = x} {t = t} a b c d) e h =
    let g = at_more s i 1 (69 ∷ 45 ∷ t) (45 ∷ t) e refl in
    let r = at_more s i 2 (69 ∷ 45 ∷ t) t e refl in
    let q = eq-eqb (get_or s i 0) 69 (at_first s i (69 ∷ 45 ∷ t) e) in
    let f = at_first s (i + 1) (45 ∷ t) g in
    let k = ne_eqb (get_or s (i + 1) 0) 43 (omega arith) in
    let o = eq-eqb (get_or s (i + 1) 0) 45 f in
    (i + 2 + n, rw (q, k, o, digits_read s (i + 2) 3 d r h.no_digit b, lt-ltb 1 n a, lt-ltb x 100 c) refl, at_more s (i + 2) n t u r (spelled_drop d))

-- after the digits an E may follow, or what ends the number: no digit and no point
opens : {p : ℕ} {t u : List ℕ} → SpelledExponent p t u → Ends u → NoDigit t × (get_or t 0 0 ≡ 46 → ⊥)
opens absent h = (h.no_digit, h.no_point)
opens (up a b c d) h = (refl, λ z. omega arith)
opens (down a b c d) h = (refl, λ z. omega arith)

-- digits and a point begin with no sign
digits_begin : {n v w : ℕ} {t u : List ℕ} → SpelledDigits n v w t u → 0 < n → 46 ≤ get_or t 0 0
digits_begin none h = absurd (omega arith)
digits_begin (more a x) h = omega arith

mantissa_begins : {v f : ℕ} {t u : List ℕ} → SpelledMantissa v f t u → 46 ≤ get_or t 0 0
mantissa_begins (whole a b c x) = digits_begin x a
mantissa_begins (pointed a b c none y) = omega arith
mantissa_begins (pointed a b c (more d x) y) = omega arith

unsigned_read : {v f p : ℕ} {t k u : List ℕ} (s : List ℕ) (i : ℕ) (m : Bool)
    → SpelledMantissa v f t k → SpelledExponent p k u → drop i s ≡ t → Ends u → (j : ℕ) × (unsigned s m (mantissa_at s i) ≡ Some (number_with m v (p - f) j)) × (drop j s ≡ u)
unfolding unsigned raised
unsigned_read s i m x y e h =
    let o = opens y h in
    let a = mantissa_read s i x e o.0 o.1 in
    let b = exponent_read s a.0 y a.2 h in
    (b.0, rw (a.1, b.1) refl, b.2)

-- a number that is spelled at the place i, and then u, is read there
pub number_read : {m : Bool} {v p : ℕ} {t u : List ℕ} (s : List ℕ) (i : ℕ)
    → SpelledNumber m v p t u → drop i s ≡ t → Ends u → (j : ℕ) × (number_at s i ≡ Some (number_with m v p j)) × (drop j s ≡ u)
unfolding number_at
number_read s i (plain {t = t} x y) e h =
    let b = mantissa_begins x in
    let f = at_first s i t e in
    let a = unsigned_read s i false x y e h in
    (a.0, rw (ne_eqb (get_or s i 0) 43 (omega arith), ne_eqb (get_or s i 0) 45 (omega arith)) a.1, a.2)
number_read s i (plus {t = t} x y) e h =
    let a = unsigned_read s (i + 1) false x y (at_more s i 1 (43 ∷ t) t e refl) h in
    (a.0, rw (eq-eqb (get_or s i 0) 43 (at_first s i (43 ∷ t) e)) a.1, a.2)
number_read s i (minus {t = t} x y) e h =
    let f = at_first s i (45 ∷ t) e in
    let a = unsigned_read s (i + 1) true x y (at_more s i 1 (45 ∷ t) t e refl) h in
    (a.0, rw (ne_eqb (get_or s i 0) 43 (omega arith), eq-eqb (get_or s i 0) 45 f) a.1, a.2)

-- and so are digits only
pub count_read : {v : ℕ} {t u : List ℕ} (s : List ℕ) (i : ℕ) → SpelledCount v t u → drop i s ≡ t → NoDigit u → (j : ℕ) × (count_at s i ≡ Some (count_with v j)) × (drop j s ≡ u)
unfolding count_at count_of
count_read {u = u} s i (only {n = n} {v = v} {t = t} a b c x) e h = (i + n, rw (digits_read s i 12 x e h b, lt-ltb 0 n a, lt-ltb v bound c) refl, at_more s i n t u e (spelled_drop x))

-- so a text spells one number at most
pub number_unique : {m n : Bool} {v w p q : ℕ} {t u z : List ℕ} → SpelledNumber m v p t u → SpelledNumber n w q t z → Ends u → Ends z → (m ≡ n) × (v ≡ w) × (p ≡ q)
number_unique {t = t} x y h l =
    let a = number_read t 0 x refl h in
    let b = number_read t 0 y refl l in
    let e = some_same (sym a.1 ∙ b.1) in
    (ap (λ r. r.minus) e, ap (λ r. r.mantissa) e, ap (λ r. r.power) e)

-- ---- what is read is spelled

digits_spelled : (s : List ℕ) (i m v w n : ℕ) → digits (drop i s) m v 0 ≡ run w n → (n ≤ m) × SpelledDigits n v w (drop i s) (drop (i + n) s)
digits_spelled s i m v w n e =
    let x = run_spelled (drop i s) m v w n e in
    (x.0, subst (λ (l : List ℕ). SpelledDigits n v w (drop i s) l) (drop-drop n i s) x.1)

-- what is read at the place i, if it is not misspelled, is spelled there
abbrev MantissaSpelled : List ℕ → ℕ → Option Mantissa → Type 0
MantissaSpelled s i (Some x) = SpelledMantissa x.value x.behind (drop i s) (drop x.end s)
MantissaSpelled s i None = Unit

abbrev ExponentSpelled : List ℕ → ℕ → Option Exponent → Type 0
ExponentSpelled s i (Some x) = SpelledExponent x.power (drop i s) (drop x.end s)
ExponentSpelled s i None = Unit

abbrev pub NumberSpelled : List ℕ → ℕ → Option Number → Type 0
NumberSpelled s i (Some x) = SpelledNumber x.minus x.mantissa x.power (drop i s) (drop x.end s)
NumberSpelled s i None = Unit

abbrev pub CountSpelled : List ℕ → ℕ → Option Count → Type 0
CountSpelled s i (Some x) = SpelledCount x.value (drop i s) (drop x.end s)
CountSpelled s i None = Unit

-- a choice by two tests, where the other side asks nothing
chosen : {A : Type 0} (P : A → Type 0) (a b : Bool) (x y : A) → P y → (a ≡ true → b ≡ true → P x) → P (pick (both a b) x y)
chosen P true true x y h f = f refl refl
chosen P true false x y h f = h
chosen P false b x y h f = h

module _ (s : List ℕ) (i : ℕ) where
  behind_spelled : (n w : ℕ) → SpelledDigits n 0 w (drop i s) (46 ∷ drop (i + n + 1) s) → n ≤ 12
      → (r : Run) → digits (drop (i + n + 1) s) (12 - n) w 0 ≡ r → MantissaSpelled s i (behind_point n (i + n + 1) r)
  unfolding behind_point mantissa_of
  behind_spelled n w x l long e = tt
  behind_spelled n w x l (run v f) e =
      let d = digits_spelled s (i + n + 1) (12 - n) w v f e in
      let o : n + f ≤ 12 = omega (arith, d.0) in
      chosen (MantissaSpelled s i) (ltb 0 (n + f)) (ltb v bound) (Some (mantissa_with v f (i + n + 1 + f))) None tt
      (λ a b. pointed (ltb-true 0 (n + f) a) o (ltb-true v bound b) x d.1)

  before_spelled : (r : Run) → digits (drop i s) 12 0 0 ≡ r → MantissaSpelled s i (before_point s i r)
  unfolding before_point mantissa_of
  before_spelled long e = tt
  before_spelled (run v n) e =
      let d = digits_spelled s i 12 0 v n e in
      by_case (λ t. eqb (get_or s (i + n) 0) 46 ≡ t → MantissaSpelled s i (pick t (behind_point n (i + n + 1) (digits (drop (i + n + 1) s) (12 - n) v 0)) (mantissa_of v n 0 (i + n))))
      (eqb (get_or s (i + n) 0) 46)
      (λ _ h. let b = at_byte s (i + n) 46 (eqb-true (get_or s (i + n) 0) 46 h) (omega arith) in
      behind_spelled n v (rw b at d.1) d.0 (digits (drop (i + n + 1) s) (12 - n) v 0) refl)
      (λ _ h. chosen (MantissaSpelled s i) (ltb 0 n) (ltb v bound) (Some (mantissa_with v 0 (i + n))) None tt
      (λ a b. whole (ltb-true 0 n a) d.0 (ltb-true v bound b) d.1))
      refl

  mantissa_spelled : MantissaSpelled s i (mantissa_at s i)
  unfolding mantissa_at
  mantissa_spelled = before_spelled (digits (drop i s) 12 0 0) refl

  count_of_spelled : (r : Run) → digits (drop i s) 12 0 0 ≡ r → CountSpelled s i (count_of i r)
  unfolding count_of
  count_of_spelled long e = tt
  count_of_spelled (run v n) e =
      let d = digits_spelled s i 12 0 v n e in
      chosen (CountSpelled s i) (ltb 0 n) (ltb v bound) (Some (count_with v (i + n))) None tt
      (λ a b. only (ltb-true 0 n a) d.0 (ltb-true v bound b) d.1)

  power_spelled : (m : Bool) → drop i s ≡ 69 ∷ pick m 45 43 ∷ drop (i + 2) s
      → (r : Run) → digits (drop (i + 2) s) 3 0 0 ≡ r → ExponentSpelled s i (power_of m (i + 2) r)
  unfolding power_of
  power_spelled m h long e = tt
  power_spelled true h (run x n) e =
      let d = digits_spelled s (i + 2) 3 0 x n e in
      chosen (ExponentSpelled s i) (ltb 1 n) (ltb x 100) (Some (exponent_with (origin - x) (i + 2 + n))) None tt
      (λ a b. rw h (down (ltb-true 1 n a) d.0 (ltb-true x 100 b) d.1))
  power_spelled false h (run x n) e =
      let d = digits_spelled s (i + 2) 3 0 x n e in
      chosen (ExponentSpelled s i) (ltb 1 n) (ltb x 100) (Some (exponent_with (origin + x) (i + 2 + n))) None tt
      (λ a b. rw h (up (ltb-true 1 n a) d.0 (ltb-true x 100 b) d.1))

  exponent_spelled : ExponentSpelled s i (exponent_at s i)
  unfolding exponent_at
  exponent_spelled =
      let r = digits (drop (i + 2) s) 3 0 0 in
      let b = get_or s (i + 1) 0 in
      by_case (λ t. eqb (get_or s i 0) 69 ≡ t
      → ExponentSpelled s i (pick t (pick (eqb b 43) (power_of false (i + 2) r) (pick (eqb b 45) (power_of true (i + 2) r) None)) (Some (exponent_with origin i))))
      (eqb (get_or s i 0) 69)
      (λ _ e. by_case (λ t. eqb b 43 ≡ t
      → ExponentSpelled s i (pick t (power_of false (i + 2) r) (pick (eqb b 45) (power_of true (i + 2) r) None)))
      (eqb b 43)
      (λ _ f. power_spelled false (at_two s i 69 43 (eqb-true (get_or s i 0) 69 e) (eqb-true b 43 f) (omega arith) (omega arith)) r refl)
      (λ _ f. by_case (λ t. eqb b 45 ≡ t → ExponentSpelled s i (pick t (power_of true (i + 2) r) None)) (eqb b 45)
      (λ _ g. power_spelled true (at_two s i 69 45 (eqb-true (get_or s i 0) 69 e) (eqb-true b 45 g) (omega arith) (omega arith)) r refl)
      (λ _ g. tt) refl)
      refl)
      (λ _ e. absent) refl

-- a number at i with its digits at k, where they make it so
module _ (s : List ℕ) (i k : ℕ) (m : Bool)
    (make : (v f p : ℕ) (u w : List ℕ) → SpelledMantissa v f (drop k s) u → SpelledExponent p u w → SpelledNumber m v (p - f) (drop i s) w) where
  raised_spelled : (v f j : ℕ) → SpelledMantissa v f (drop k s) (drop j s) → (r : Option Exponent) → ExponentSpelled s j r → NumberSpelled s i (raised m v f r)
  unfolding raised
  raised_spelled v f j x None y = tt
  raised_spelled v f j x (Some z) y = make v f z.power (drop j s) (drop z.end s) x y

  unsigned_spelled : (r : Option Mantissa) → MantissaSpelled s k r → NumberSpelled s i (unsigned s m r)
  unfolding unsigned
  unsigned_spelled None x = tt
  unsigned_spelled (Some y) x = raised_spelled y.value y.behind y.end x (exponent_at s y.end) (exponent_spelled s y.end)

-- a number that is read at the place i is spelled there
pub number_spelled : (s : List ℕ) (i : ℕ) → NumberSpelled s i (number_at s i)
unfolding number_at
number_spelled s i =
    by_case (λ t. eqb (get_or s i 0) 43 ≡ t
    → NumberSpelled s i (pick t (unsigned s false (mantissa_at s (i + 1))) (pick (eqb (get_or s i 0) 45) (unsigned s true (mantissa_at s (i + 1))) (unsigned s false (mantissa_at s i)))))
    (eqb (get_or s i 0) 43)
    (λ _ e. let b = at_byte s i 43 (eqb-true (get_or s i 0) 43 e) (omega arith) in
    unsigned_spelled s i (i + 1) false (λ v f p u w x y. rw b (plus x y)) (mantissa_at s (i + 1)) (mantissa_spelled s (i + 1)))
    (λ _ e. by_case (λ t. eqb (get_or s i 0) 45 ≡ t → NumberSpelled s i (pick t (unsigned s true (mantissa_at s (i + 1))) (unsigned s false (mantissa_at s i)))) (eqb (get_or s i 0) 45)
    (λ _ f. let b = at_byte s i 45 (eqb-true (get_or s i 0) 45 f) (omega arith) in
    unsigned_spelled s i (i + 1) true (λ v f p u w x y. rw b (minus x y)) (mantissa_at s (i + 1)) (mantissa_spelled s (i + 1)))
    (λ _ f. unsigned_spelled s i i false (λ v f p u w x y. plain x y) (mantissa_at s i) (mantissa_spelled s i)) refl)
    refl

pub count_spelled : (s : List ℕ) (i : ℕ) → CountSpelled s i (count_at s i)
unfolding count_at
count_spelled s i = count_of_spelled s i (digits (drop i s) 12 0 0) refl
