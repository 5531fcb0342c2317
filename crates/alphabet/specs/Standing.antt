-- The byte that stands at a place, and what it says of the entry there: whether it is a digit, a blank or a point. Assumes nothing.
use Rattle.std.specs.Prelude.{◌≡◌, refl, Bool, true, false, List, ℕ, ◌+◌, ◌-◌, ◌≤◌, ◌<◌, eqb, ltb, leb, length, get_or}
use Rattle.std.proofs.Common.{sym, ap, ◌∙◌, subst, arith, lt-ltb, le-ltb, ltb-true, ltb-false, leb-true, eqb-true}
use Rattle.terms.specs.Logic.{pick, by_case, no_way}
use Rattle.alphabet_spec.specs.Kinds.{dup, dif, sqz, Blank, space, tabs_too}
use Rattle.alphabet_spec.specs.Digits.{within}
use Rattle.alphabet_spec.specs.Bytes.{Byte, digit, lead, sign, quest, blank, point, lf, cr, dollar, other, kind}
use Rattle.alphabet_spec.proofs.KindLaws.{Back, kind_back, is_digit, kind_digit}
use Rattle.alphabet_spec.specs.Entries.{code, entry, entry_at, kind_of}
use Rattle.alphabet_spec.proofs.EntryLaws.{at_entry, at_kind, past_end, entry_in}

-- the byte at a place, 256 at the end of the text
unfoldable pub standing : List ℕ → ℕ → ℕ
standing s i = pick (ltb i (length s)) (get_or s i 0) 256

-- is the byte a blank?
abbrev pub blanking : ℕ → Bool
blanking b = eqb b 32

pub stands_in : (s : List ℕ) (i : ℕ) → i < length s → standing s i ≡ get_or s i 0
unfolding standing
stands_in s i h = rw (lt-ltb i (length s) h) refl

pub stands_over : (s : List ℕ) (i : ℕ) → length s ≤ i → standing s i ≡ 256
unfolding standing
stands_over s i h = rw (le-ltb i (length s) h) refl

-- the byte b that stands within the text has its entry
pub entry_stands : (s : List ℕ) (i : ℕ) {b : ℕ} → i < length s → b ≡ standing s i → entry_at s i ≡ entry b
entry_stands s i h g = at_entry s i h ∙ rw (g, stands_in s i h) refl

-- what holds of each byte and its entry, and of the end, holds of what stands at a place
pub stood : (P : ℕ → ℕ → Type 0) → ((b : ℕ) → P b (entry b)) → P 256 256 → (s : List ℕ) (i : ℕ) → P (standing s i) (entry_at s i)
stood P f e s i =
    by_case (λ t. ltb i (length s) ≡ t → P (standing s i) (entry_at s i)) (ltb i (length s))
    (λ _ x. let h = ltb-true i (length s) x in rw (stands_in s i h, at_entry s i h) (f (get_or s i 0)))
    (λ _ x. let h = ltb-false i (length s) x in rw (stands_over s i h, past_end s i h) e) refl

-- ---- digits

pub within_in : (lo n b : ℕ) → within lo n b ≡ true → (lo ≤ b) × (b < lo + n)
within_in lo n b =
    by_case (λ t. leb lo b ≡ t → pick t (ltb b (lo + n)) false ≡ true → (lo ≤ b) × (b < lo + n)) (leb lo b) (λ _ h k. (leb-true lo b h, ltb-true b (lo + n) k)) (λ _ h k. no_way k) refl

byte_digit : (b : ℕ) → within 48 10 b ≡ true → (entry b < 16) × (entry b ≡ b - 48)
unfolding entry kind
byte_digit b w = let l = within_in 48 10 b w in let z : entry b ≡ b - 48 = rw w refl in (omega arith, z)

-- a digit stands there
pub digit_stands : (s : List ℕ) (i : ℕ) → within 48 10 (standing s i) ≡ true → (entry_at s i < 16) × (entry_at s i ≡ standing s i - 48)
digit_stands = stood (λ b e. within 48 10 b ≡ true → (e < 16) × (e ≡ b - 48)) byte_digit (λ w. no_way w)

off : (c : Byte) → is_digit c ≡ false → 16 ≤ code c
off (digit d) h = no_way (sym h)
off (lead dup d) h = omega arith
off (lead (dif true) d) h = omega arith
off (lead (dif false) d) h = omega arith
off (lead (sqz true) d) h = omega arith
off (lead (sqz false) d) h = omega arith
off (sign true) h = omega arith
off (sign false) h = omega arith
off quest h = omega arith
off blank h = omega arith
off point h = omega arith
off lf h = omega arith
off cr h = omega arith
off dollar h = omega arith
off other h = omega arith

byte_off : (b : ℕ) → within 48 10 b ≡ false → 16 ≤ entry b
unfolding entry
byte_off b w = off (kind tabs_too b) (sym (kind_digit tabs_too b) ∙ w)

-- no digit stands there
pub digit_stands_not : (s : List ℕ) (i : ℕ) → within 48 10 (standing s i) ≡ false → 16 ≤ entry_at s i
digit_stands_not = stood (λ b e. within 48 10 b ≡ false → 16 ≤ e) byte_off (λ w. omega arith)

-- what a test of the byte b says, where b stands
pub digit_seen : (s : List ℕ) (i : ℕ) {b : ℕ} {t : Bool} → b ≡ standing s i → t ≡ within 48 10 b → t ≡ true → entry_at s i < 16
digit_seen s i g e h = (digit_stands s i (rw g at (sym e ∙ h))).0

pub digit_seen_not : (s : List ℕ) (i : ℕ) {b : ℕ} {t : Bool} → b ≡ standing s i → t ≡ within 48 10 b → t ≡ false → 16 ≤ entry_at s i
digit_seen_not s i g e h = digit_stands_not s i (rw g at (sym e ∙ h))

-- ---- a blank, a point

byte_blank : (b : ℕ) → blanking b ≡ true → entry b ≡ 112
unfolding entry kind
byte_blank b h = ap entry (eqb-true b 32 h)

pub blank_stands : (s : List ℕ) (i : ℕ) → blanking (standing s i) ≡ true → entry_at s i ≡ 112
blank_stands = stood (λ b e. blanking b ≡ true → e ≡ 112) byte_blank (λ w. no_way w)

spaced : {b : ℕ} → Blank tabs_too b → blanking b ≡ true
spaced space = refl

-- the entry of a blank is no other byte's
pub blank_stood : (s : List ℕ) (i : ℕ) → entry_at s i ≡ 112 → blanking (standing s i) ≡ true
blank_stood s i e =
    let h = entry_in s i (λ x. omega arith) in
    rw (stands_in s i h) (spaced (subst (Back tabs_too (get_or s i 0)) (at_kind s i h ∙ ap kind_of e) (kind_back tabs_too (get_or s i 0))))

byte_point : (b : ℕ) → b ≡ 46 → entry b ≡ 160
unfolding entry kind
byte_point b w = ap entry w

pub point_stands : (s : List ℕ) (i : ℕ) → standing s i ≡ 46 → entry_at s i ≡ 160
point_stands = stood (λ b e. b ≡ 46 → e ≡ 160) byte_point (λ w. absurd (omega arith))

pub point_stood : (s : List ℕ) (i : ℕ) → entry_at s i ≡ 160 → standing s i ≡ 46
point_stood s i e =
    let h = entry_in s i (λ x. omega arith) in
    rw (stands_in s i h) (subst (Back tabs_too (get_or s i 0)) (at_kind s i h ∙ ap kind_of e) (kind_back tabs_too (get_or s i 0)))

pub blank_seen : (s : List ℕ) (i : ℕ) {b : ℕ} {t : Bool} → b ≡ standing s i → t ≡ blanking b → t ≡ true → entry_at s i ≡ 112
blank_seen s i g e h = blank_stands s i (rw g at (sym e ∙ h))

pub blank_seen_not : (s : List ℕ) (i : ℕ) {b : ℕ} {t : Bool} → b ≡ standing s i → t ≡ blanking b → t ≡ false → entry_at s i ≡ 112 → ⊥
blank_seen_not s i g e h k = no_way (sym h ∙ e ∙ rw g (blank_stood s i k))
