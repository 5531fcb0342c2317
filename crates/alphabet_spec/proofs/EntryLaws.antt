-- From the entry of a byte back to its kind, and from there to the byte at a place (`at_kind`). Assumes nothing.
use Rattle.std.specs.Prelude.{◌≡◌, refl, Bool, true, false, List, ℕ, ◌+◌, ◌≤◌, ◌<◌, ltb, length, get_or}
use Rattle.std.proofs.Common.{sym, ap, ◌∙◌, arith, lt-ltb, le-ltb, ltb-true, ltb-false}
use Rattle.terms.specs.Logic.{by_case, ten}
use Rattle.alphabet_spec.specs.Kinds.{Lead, sqz, dif, dup, Pseudo, sqz_up, sqz_down, dif_zero, dif_up, dif_down, dup_low, dup_nine, tabs_too}
use Rattle.alphabet_spec.specs.Bytes.{Byte, digit, lead, sign, quest, blank, point, lf, cr, dollar, other, kind}
use Rattle.alphabet_spec.proofs.KindLaws.{Back, kind_back}
use Rattle.alphabet_spec.specs.Entries.{lead_code, code, entry, entry_at, kind_of}

-- ---- from an entry to the kind

lead_back : {k : Lead} {d b : ℕ} → Pseudo k d b → (kind_of (lead_code k + d) ≡ lead k d) × (lead_code k + d < 256)
lead_back (sqz_up {d = d} l) = (ten (λ x. kind_of (64 + x) ≡ lead (sqz false) x) refl refl refl refl refl refl refl refl refl refl d l, omega arith)
lead_back (sqz_down {d = d} z l) = (ten (λ x. kind_of (80 + x) ≡ lead (sqz true) x) refl refl refl refl refl refl refl refl refl refl d l, omega arith)
lead_back dif_zero = (refl, omega arith)
lead_back (dif_up {d = d} z l) = (ten (λ x. kind_of (32 + x) ≡ lead (dif false) x) refl refl refl refl refl refl refl refl refl refl d l, omega arith)
lead_back (dif_down {d = d} z l) = (ten (λ x. kind_of (48 + x) ≡ lead (dif true) x) refl refl refl refl refl refl refl refl refl refl d l, omega arith)
lead_back (dup_low {d = d} z l) = (ten (λ x. kind_of (16 + x) ≡ lead dup x) refl refl refl refl refl refl refl refl refl refl d (omega arith), omega arith)
lead_back dup_nine = (refl, omega arith)

-- an entry says the kind that it was made from, and is no end mark
back : (tabs : Bool) (b : ℕ) (c : Byte) → Back tabs b c → (kind_of (code c) ≡ c) × (code c < 256)
back tabs b (digit d) h = (ten (λ x. kind_of x ≡ digit x) refl refl refl refl refl refl refl refl refl refl d h.0, omega (arith, h.0))
back tabs b (lead k d) h = lead_back h
back tabs b (sign true) h = (refl, omega arith)
back tabs b (sign false) h = (refl, omega arith)
back tabs b quest h = (refl, omega arith)
back tabs b blank h = (refl, omega arith)
back tabs b point h = (refl, omega arith)
back tabs b lf h = (refl, omega arith)
back tabs b cr h = (refl, omega arith)
back tabs b dollar h = (refl, omega arith)
back tabs b other h = (refl, omega arith)

pub at_entry : (s : List ℕ) (i : ℕ) → i < length s → entry_at s i ≡ entry (get_or s i 0)
unfolding entry_at
at_entry s i h = rw (lt-ltb i (length s) h) refl

pub past_end : (s : List ℕ) (i : ℕ) → length s ≤ i → entry_at s i ≡ 256
unfolding entry_at
past_end s i h = rw (le-ltb i (length s) h) refl

-- the kind of the byte at a place is what its entry says
pub at_kind : (s : List ℕ) (i : ℕ) → i < length s → kind tabs_too (get_or s i 0) ≡ kind_of (entry_at s i)
unfolding entry
at_kind s i h = let b = get_or s i 0 in sym (ap kind_of (at_entry s i h) ∙ (back tabs_too b (kind tabs_too b) (kind_back tabs_too b)).0)

-- a place is within the text, or at its end, as its entry says
pub entry_in : (s : List ℕ) (i : ℕ) → (entry_at s i ≡ 256 → ⊥) → i < length s
entry_in s i n = by_case (λ t. ltb i (length s) ≡ t → i < length s) (ltb i (length s)) (λ _ e. ltb-true i (length s) e) (λ _ e. absurd (n (past_end s i (ltb-false i (length s) e)))) refl

pub entry_end : (s : List ℕ) (i : ℕ) → entry_at s i ≡ 256 → length s ≤ i
unfolding entry
entry_end s i h =
    by_case (λ t. ltb i (length s) ≡ t → length s ≤ i) (ltb i (length s))
    (λ _ e. let l = ltb-true i (length s) e in let b = get_or s i 0 in let z = at_entry s i l in let y = (back tabs_too b (kind tabs_too b) (kind_back tabs_too b)).1 in absurd (omega arith))
    (λ _ e. ltb-false i (length s) e) refl
