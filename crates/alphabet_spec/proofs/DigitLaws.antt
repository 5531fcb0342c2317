-- Runs of digits, place by place: what the code's one loop over digits needs. Assumes nothing.
use Rattle.std.specs.Prelude.{◌≡◌, refl, false, List, ℕ, suc, ◌+◌, ◌-◌, ◌≤◌, ◌<◌, ltb, length, get_or, drop}
use Rattle.std.proofs.Common.{◌∙◌, subst, arith, drop_of_length-le, drop-cons, lt-ltb, ltb-true, ltb-false}
use Rattle.terms.specs.Logic.{by_case}
use Rattle.alphabet_spec.specs.Kinds.{tabs_too}
use Rattle.alphabet_spec.specs.Digits.{run, one_more, digits}
use Rattle.alphabet_spec.specs.Bytes.{Byte, digit, lead, sign, quest, blank, point, lf, cr, dollar, other, kind}
use Rattle.alphabet_spec.proofs.KindLaws.{Back, kind_back, is_digit, back_digit, digit_within}
use Rattle.alphabet_spec.specs.Entries.{code, entry, entry_at, kind_of}
use Rattle.alphabet_spec.proofs.EntryLaws.{at_kind, at_entry, entry_in}

-- the entry of a digit is the digit
pub digit_at : (s : List ℕ) (i : ℕ) → entry_at s i < 16 → (i < length s) × (get_or s i 0 ≡ 48 + entry_at s i) × (entry_at s i < 10)
digit_at s i l =
    let h = entry_in s i (λ e. omega arith) in
    let k : kind_of (entry_at s i) ≡ digit (entry_at s i) = rw (lt-ltb (entry_at s i) 16 l) refl in
    let b = subst (Back tabs_too (get_or s i 0)) (at_kind s i h ∙ k) (kind_back tabs_too (get_or s i 0)) in
    (h, b.1, b.0)

far : (b : ℕ) (c : Byte) → Back tabs_too b c → 16 ≤ code c → is_digit c ≡ false
far b (digit d) h l = absurd (omega (arith, h.0))
far b (lead k d) h l = refl
far b (sign m) h l = refl
far b quest h l = refl
far b blank h l = refl
far b point h l = refl
far b lf h l = refl
far b cr h l = refl
far b dollar h l = refl
far b other h l = refl

-- an entry of 16 or more ends a run
pub digits_stop : (s : List ℕ) (i m v n : ℕ) → 16 ≤ entry_at s i → digits (drop i s) m v n ≡ run v n
unfolding digits entry
digits_stop s i m v n l =
    by_case (λ t. ltb i (length s) ≡ t → digits (drop i s) m v n ≡ run v n) (ltb i (length s))
    (λ _ e. let h = ltb-true i (length s) e in let b = get_or s i 0 in let c = kind tabs_too b in let z = at_entry s i h in
    rw (drop-cons s i 0 h, back_digit tabs_too b c (kind_back tabs_too b), far b c (kind_back tabs_too b) (omega arith)) refl)
    (λ _ e. rw (drop_of_length-le s (ltb-false i (length s) e)) refl) refl

-- a further digit
pub digits_on : (s : List ℕ) (i m v n : ℕ) → entry_at s i < 16 → digits (drop i s) m v n ≡ one_more (digits (drop (suc i) s)) m v n (entry_at s i)
unfolding digits
digits_on s i m v n l =
    let z = digit_at s i l in let d = entry_at s i in
    let e : 48 + d - 48 ≡ d = omega arith in
    rw (drop-cons s i 0 z.0, z.1, digit_within d z.2, e) refl
