-- From the byte that is spelled to its kind, and from a kind back to the byte. Assumes nothing.
use Rattle.std.specs.Prelude.{◌≡◌, refl, Bool, true, false, ℕ, ◌+◌, ◌-◌, ◌≤◌, ◌<◌, ltb, leb, eqb}
use Rattle.std.proofs.Common.{sym, subst, arith, ltb-true, leb-true, eqb-true, le-leb, lt-ltb}
use Rattle.terms.specs.Logic.{pick, by_case, ten}
use Rattle.alphabet_spec.specs.Kinds.{Lead, sqz, dif, dup, Pseudo, sqz_up, sqz_down, dif_zero, dif_up, dif_down, dup_low, dup_nine, Blank, space, tab}
use Rattle.alphabet_spec.specs.Digits.{within}
use Rattle.alphabet_spec.specs.Bytes.{Byte, digit, lead, sign, quest, blank, point, lf, cr, dollar, other, kind}

-- ---- a byte that is spelled: its kind

pub digit_kind : (tabs : Bool) (d : ℕ) → d < 10 → kind tabs (48 + d) ≡ digit d
unfolding kind
digit_kind tabs = ten (λ d. kind tabs (48 + d) ≡ digit d) refl refl refl refl refl refl refl refl refl refl

no : {A : Type 0} → 0 < 0 → A
no l = absurd (omega arith)

pub pseudo_kind : (tabs : Bool) {k : Lead} {d b : ℕ} → Pseudo k d b → kind tabs b ≡ lead k d
unfolding kind
pseudo_kind tabs (sqz_up {d = d} l) = ten (λ x. kind tabs (64 + x) ≡ lead (sqz false) x) refl refl refl refl refl refl refl refl refl refl d l
pseudo_kind tabs (sqz_down {d = d} z l) =
    ten (λ x. 0 < x → kind tabs (96 + x) ≡ lead (sqz true) x) no (λ _. refl) (λ _. refl) (λ _. refl) (λ _. refl) (λ _. refl) (λ _. refl) (λ _. refl) (λ _. refl) (λ _. refl) d l z
pseudo_kind tabs dif_zero = refl
pseudo_kind tabs (dif_up {d = d} z l) =
    ten (λ x. 0 < x → kind tabs (73 + x) ≡ lead (dif false) x) no (λ _. refl) (λ _. refl) (λ _. refl) (λ _. refl) (λ _. refl) (λ _. refl) (λ _. refl) (λ _. refl) (λ _. refl) d l z
pseudo_kind tabs (dif_down {d = d} z l) =
    ten (λ x. 0 < x → kind tabs (105 + x) ≡ lead (dif true) x) no (λ _. refl) (λ _. refl) (λ _. refl) (λ _. refl) (λ _. refl) (λ _. refl) (λ _. refl) (λ _. refl) (λ _. refl) d l z
pseudo_kind tabs (dup_low {d = d} z l) =
    ten (λ x. 0 < x → x < 9 → kind tabs (82 + x) ≡ lead dup x) (λ y _. no y) (λ _ _. refl) (λ _ _. refl) (λ _ _. refl) (λ _ _. refl) (λ _ _. refl) (λ _ _. refl) (λ _ _. refl) (λ _ _. refl)
    (λ _ y. absurd (omega arith)) d (omega arith) z l
pseudo_kind tabs dup_nine = refl

pub blank_kind : {tabs : Bool} {b : ℕ} → Blank tabs b → kind tabs b ≡ blank
unfolding kind
blank_kind space = refl
blank_kind tab = refl

-- ---- a kind: the byte that has it

abbrev pub Back : Bool → ℕ → Byte → Type 0
Back tabs b (digit d) = (d < 10) × (b ≡ 48 + d)
Back tabs b (lead k d) = Pseudo k d b
Back tabs b (sign true) = b ≡ 45
Back tabs b (sign false) = b ≡ 43
Back tabs b quest = b ≡ 63
Back tabs b blank = Blank tabs b
Back tabs b point = b ≡ 46
Back tabs b lf = b ≡ 10
Back tabs b cr = b ≡ 13
Back tabs b dollar = b ≡ 36
Back tabs b other = within 48 10 b ≡ false

module _ (P : Byte → Type 0) (b : ℕ) (x y : Byte) where
  ranged : (lo n : ℕ) → (lo ≤ b → b < lo + n → P x) → (within lo n b ≡ false → P y) → P (pick (within lo n b) x y)
  ranged lo n f g =
      by_case (λ t. leb lo b ≡ t → (pick t (ltb b (lo + n)) false ≡ false → P y) → P (pick (pick t (ltb b (lo + n)) false) x y)) (leb lo b)
      (λ _ h k. by_case (λ t. ltb b (lo + n) ≡ t → (t ≡ false → P y) → P (pick t x y)) (ltb b (lo + n)) (λ _ m _. f (leb-true lo b h) (ltb-true b (lo + n) m)) (λ _ _ r. r refl) refl k)
      (λ _ h k. k refl) refl g

  single : (c : ℕ) → (b ≡ c → P x) → P y → P (pick (eqb b c) x y)
  single c f g = by_case (λ t. P (pick t x y)) (eqb b c) (λ h. f (eqb-true b c h)) (λ h. g)

tab_back : (tabs : Bool) (b : ℕ) → within 48 10 b ≡ false → Back tabs b (pick (eqb b 9) (pick tabs blank other) other)
tab_back true b n = single (Back true b) b blank other 9 (λ e. subst (Blank true) (sym e) tab) n
tab_back false b n = single (Back false b) b other other 9 (λ e. n) n

pub kind_back : (tabs : Bool) (b : ℕ) → Back tabs b (kind tabs b)
unfolding kind
kind_back tabs b =
    let P = Back tabs b in
    ranged P b _ _ 48 10 (λ l h. (omega arith, omega arith))
    (λ n. ranged P b _ _ 64 10 (λ l h. subst (Pseudo (sqz false) (b - 64)) (omega arith) (sqz_up (omega arith)))
    (λ _. ranged P b _ _ 97 9 (λ l h. subst (Pseudo (sqz true) (b - 96)) (omega arith) (sqz_down (omega arith) (omega arith)))
    (λ _. single P b _ _ 37 (λ e. subst (Pseudo (dif false) 0) (sym e) dif_zero)
    (ranged P b _ _ 74 9 (λ l h. subst (Pseudo (dif false) (b - 73)) (omega arith) (dif_up (omega arith) (omega arith)))
    (λ _. ranged P b _ _ 106 9 (λ l h. subst (Pseudo (dif true) (b - 105)) (omega arith) (dif_down (omega arith) (omega arith)))
    (λ _. ranged P b _ _ 83 8 (λ l h. subst (Pseudo dup (b - 82)) (omega arith) (dup_low (omega arith) (omega arith)))
    (λ _. single P b _ _ 115 (λ e. subst (Pseudo dup 9) (sym e) dup_nine)
    (single P b _ _ 43 (λ e. e)
    (single P b _ _ 45 (λ e. e)
    (single P b _ _ 63 (λ e. e)
    (single P b _ _ 32 (λ e. subst (Blank tabs) (sym e) space)
    (single P b _ _ 46 (λ e. e)
    (single P b _ _ 10 (λ e. e)
    (single P b _ _ 13 (λ e. e)
    (single P b _ _ 36 (λ e. e) (tab_back tabs b n))))))))))))))))

-- ---- which bytes are digits

abbrev pub is_digit : Byte → Bool
is_digit (digit d) = true
is_digit (lead k d) = false
is_digit (sign m) = false
is_digit quest = false
is_digit blank = false
is_digit point = false
is_digit lf = false
is_digit cr = false
is_digit dollar = false
is_digit other = false

pub digit_within : (d : ℕ) → d < 10 → within 48 10 (48 + d) ≡ true
digit_within d l = rw (le-leb 48 (48 + d) (omega arith), lt-ltb (48 + d) 58 (omega arith)) refl

pseudo_within : {k : Lead} {d b : ℕ} → Pseudo k d b → within 48 10 b ≡ false
pseudo_within (sqz_up {d = d} l) = ten (λ x. within 48 10 (64 + x) ≡ false) refl refl refl refl refl refl refl refl refl refl d l
pseudo_within (sqz_down {d = d} z l) = ten (λ x. within 48 10 (96 + x) ≡ false) refl refl refl refl refl refl refl refl refl refl d l
pseudo_within dif_zero = refl
pseudo_within (dif_up {d = d} z l) = ten (λ x. within 48 10 (73 + x) ≡ false) refl refl refl refl refl refl refl refl refl refl d l
pseudo_within (dif_down {d = d} z l) = ten (λ x. within 48 10 (105 + x) ≡ false) refl refl refl refl refl refl refl refl refl refl d l
pseudo_within (dup_low {d = d} z l) = ten (λ x. within 48 10 (82 + x) ≡ false) refl refl refl refl refl refl refl refl refl refl d (omega arith)
pseudo_within dup_nine = refl

blank_within : {tabs : Bool} {b : ℕ} → Blank tabs b → within 48 10 b ≡ false
blank_within space = refl
blank_within tab = refl

pub back_digit : (tabs : Bool) (b : ℕ) (c : Byte) → Back tabs b c → within 48 10 b ≡ is_digit c
back_digit tabs b (digit d) h = rw h.1 (digit_within d h.0)
back_digit tabs b (lead k d) h = pseudo_within h
back_digit tabs b (sign true) h = rw h refl
back_digit tabs b (sign false) h = rw h refl
back_digit tabs b quest h = rw h refl
back_digit tabs b blank h = blank_within h
back_digit tabs b point h = rw h refl
back_digit tabs b lf h = rw h refl
back_digit tabs b cr h = rw h refl
back_digit tabs b dollar h = rw h refl
back_digit tabs b other h = h

pub kind_digit : (tabs : Bool) (b : ℕ) → within 48 10 b ≡ is_digit (kind tabs b)
kind_digit tabs b = back_digit tabs b (kind tabs b) (kind_back tabs b)
