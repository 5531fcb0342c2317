-- Heads that are spelled and heads that are read, both ways (01, "Head. Optional sign, 1 to 7 digits, then optionally a point and 0 to 3 digits"). Assumes nothing.
use Rattle.std.specs.Prelude.{◌≡◌, refl, Bool, true, false, List, [], ◌∷◌, ℕ, zero, suc, ◌+◌, ◌*◌, ◌≤◌, ◌<◌, eqb, drop}
use Rattle.std.proofs.Common.{sym, ap, ◌∙◌, arith, add-zero, add-suc, lit≤, drop-drop, eqb-true}
use Rattle.terms.specs.Logic.{pick, by_case, no_way}
use Rattle.alphabet_spec.specs.Digits.{Run, long, run, digits, some}
use Rattle.alphabet_spec.specs.Bytes.{Byte, digit, lead, sign, quest, blank, point, lf, cr, dollar, other, kind}
use Rattle.alphabet_spec.proofs.KindLaws.{digit_kind, Back, is_digit, kind_digit}
use Rattle.alphabet_spec.specs.SpelledDigits.{SpelledDigits, none, more}
use Rattle.alphabet_spec.proofs.SpelledDigitLaws.{NoDigit, first_digit, digits_run, digits_some, Follows, follows, Begins, begins}
use Rattle.table_spec.specs.Values.{headed_at}
use Rattle.table_spec.specs.Reading.{Tokens, head, HeadDigits, no_head, sized, unit, starts, scaled, pointed as after-whole, thousandths, fresh, inner, headed, opening, step, tokens}
use Rattle.table_law.specs.Spelling.{LastPlace, ones, tenths, hundredths, thousandths as third-place, Magnitude, whole, pointed, Head, unsigned, positive, negative}
use Rattle.table_law.specs.Runs.{Past, here, byte, past_drop, past_past, digits_past}
use Rattle.table_law.specs.Heads.{lengthens, Apart, Following, no_point, a_point, Parts, skip, MagnitudeIs, HeadIs}

no_digit_kind : (c : Byte) → lengthens c ≡ false → is_digit c ≡ false
no_digit_kind (digit d) h = h
no_digit_kind (lead k d) h = refl
no_digit_kind (sign m) h = refl
no_digit_kind quest h = refl
no_digit_kind blank h = refl
no_digit_kind point h = refl
no_digit_kind lf h = refl
no_digit_kind cr h = refl
no_digit_kind dollar h = refl
no_digit_kind other h = refl

pub apart_digit : (tabs : Bool) (s : List ℕ) → Apart tabs s → NoDigit s
apart_digit tabs [] h = refl
apart_digit tabs (b ∷ s) h = kind_digit tabs b ∙ no_digit_kind (kind tabs b) h

apart_point : (tabs : Bool) (s : List ℕ) → Apart tabs s → starts 46 s ≡ false
unfolding kind
apart_point tabs [] h = refl
apart_point tabs (b ∷ s) h = by_case (λ t. t ≡ false) (eqb b 46) (λ e. no_way (sym h ∙ ap (λ x. lengthens (kind tabs x)) (eqb-true b 46 e))) (λ e. refl)

-- ---- the last written place is worth what reading has it

-- at most three digits stand after the point
place_few : {k x : ℕ} → LastPlace k x → k ≤ 3
place_few ones = lit≤ tt
place_few tenths = lit≤ tt
place_few hundredths = lit≤ tt
place_few third-place = lit≤ tt

place_unit : {k x : ℕ} → LastPlace k x → unit k ≡ x
place_unit ones = refl
place_unit tenths = refl
place_unit hundredths = refl
place_unit third-place = refl

pub unit_place : (k : ℕ) → k ≤ 3 → LastPlace k (unit k)
unit_place zero l = ones
unit_place (suc zero) l = tenths
unit_place (suc (suc zero)) l = hundredths
unit_place (suc (suc (suc zero))) l = third-place
unit_place (suc (suc (suc (suc k)))) l = absurd (omega arith)

parts_of : {h x : ℕ} {t s : List ℕ} → Magnitude h x t s → Parts h x t s
parts_of (whole {n = n} {w = w} {s = s} a l r p) = record { whole_number = w; count = n; between = s; some_digit = a; few = l; before = r; behind = no_point p }
parts_of (pointed {n = n} {w = w} {u = u} a l r f p) =
    record { whole_number = w; count = n; between = 46 ∷ u; some_digit = a; few = l; before = r; behind = a_point f p }

of_parts : {n x w h : ℕ} {t u s : List ℕ} → 0 < n → n ≤ 7 → SpelledDigits n 0 w t u → Following w h x u s → Magnitude h x t s
of_parts a l r (no_point p) = whole a l r p
of_parts a l r (a_point f p) = pointed a l r f p

following_read : (tabs : Bool) {w h x : ℕ} {u s : List ℕ} → Following w h x u s → Apart tabs s
    → (n : ℕ) → (k : ℕ) × (after-whole u w n ≡ sized h x (n + k)) × Past k u s × NoDigit u
unfolding after-whole scaled
following_read tabs (no_point {s = s} p) h n = (0, rw (apart_point tabs s h, add-zero n, ← place_unit p) refl, here, apart_digit tabs s h)
following_read tabs (a_point {k = k} {s = s} f p) h n =
    (suc k, rw (digits_run 3 f (apart_digit tabs s h) (place_few p), add-suc n k, ← place_unit p) refl, byte (digits_past f), refl)

-- a head at the place a, and what stands after it
abbrev Headed : Bool → ℕ → ℕ → ℕ → Tokens → List ℕ → Type 0
Headed tabs a h x r s = (c : ℕ) × (r ≡ head a h x (tokens tabs s 0 c (inner false)))

unsigned_read : (tabs : Bool) (a : ℕ) {n w h x : ℕ} {t u s : List ℕ} → 0 < n → n ≤ 7 → SpelledDigits n 0 w t u → Following w h x u s → Apart tabs s
    → Headed tabs a (headed_at false h) x (tokens tabs t 0 a fresh) s
unfolding tokens step opening thousandths
unsigned_read tabs a i l none g h = absurd (omega arith)
unsigned_read tabs a i l (more {n = n} {d = d} b r) g h =
    let z = following_read tabs g h n in
    let y = skip tabs (past_past (digits_past r) z.2) (suc a) (inner false) in
    let e : 0 * 10 + d ≡ d = omega arith in
    (y.0, rw (digit_kind tabs d b, rw e at (digits_run 6 r z.3 (omega arith)), past_drop (digits_past r), z.1, y.1) refl)

signed_read : (tabs : Bool) (a : ℕ) (m : Bool) {n w h x : ℕ} {t u s : List ℕ} → 0 < n → n ≤ 7 → SpelledDigits n 0 w t u → Following w h x u s → Apart tabs s
    → Headed tabs a (headed_at m h) x (headed (λ n. tokens tabs t n (suc a)) a m (thousandths t (some (digits t 7 0 0)))) s
unfolding thousandths
signed_read tabs a m {n = n} i l r g h =
    let z = following_read tabs g h n in
    let y = skip tabs (past_past (digits_past r) z.2) (suc a) (inner false) in
    (y.0, rw (digits_some 7 r z.3 i l, past_drop (digits_past r), z.1, y.1) refl)

pub head_read : (tabs : Bool) (a : ℕ) {h x : ℕ} {t s : List ℕ} → Head h x t s → Apart tabs s → Headed tabs a h x (tokens tabs t 0 a fresh) s
unfolding tokens step opening kind
head_read tabs a (unsigned m) h = let z = parts_of m in unsigned_read tabs a z.some_digit z.few z.before z.behind h
head_read tabs a (positive m) h = let z = parts_of m in signed_read tabs a false z.some_digit z.few z.before z.behind h
head_read tabs a (negative m) h = let z = parts_of m in signed_read tabs a true z.some_digit z.few z.before z.behind h

-- ---- a head that is read is spelled

-- what follows a whole number w of n digits
abbrev FollowingIs : ℕ → ℕ → List ℕ → HeadDigits → Type 0
FollowingIs w n u no_head = Unit {0}
FollowingIs w n u (sized h x k) = (j : ℕ) × (k ≡ n + j) × Following w h x u (drop j u)

scaled_is : (w n : ℕ) (u : List ℕ) (x : Run) → Follows 3 w u x → FollowingIs w n (46 ∷ u) (scaled n x)
unfolding scaled
scaled_is w n u long r = tt
scaled_is w n u (run f k) r = (suc k, sym (add-suc n k), a_point r.1 (unit_place k r.0))

following_is : (u : List ℕ) (w n : ℕ) → FollowingIs w n u (after-whole u w n)
unfolding after-whole
following_is [] w n = (0, sym (add-zero n), no_point ones)
following_is (b ∷ u) w n =
    by_case (λ t. eqb b 46 ≡ t → FollowingIs w n (b ∷ u) (pick t (scaled n (digits u 3 w 0)) (sized (w * unit 0) (unit 0) n))) (eqb b 46)
    (λ _ e. rw (eqb-true b 46 e) (scaled_is w n u (digits u 3 w 0) (follows u 3 w))) (λ _ e. (0, sym (add-zero n), no_point ones)) refl

joined : (t s : List ℕ) (w n j : ℕ) → 0 < j → j ≤ 7 → SpelledDigits j 0 w t (drop n s) → (x : HeadDigits) → FollowingIs w n (drop n s) x → MagnitudeIs t s x
joined t s w n j a l m no_head r = tt
joined t s w n j a l m (sized h x k) r = rw (r.1, ← drop-drop r.0 n s) (of_parts a l m r.2)

unsigned_whole : (d : ℕ) (s : List ℕ) → d < 10 → (x : Run) → Follows 6 d s x → MagnitudeIs ((48 + d) ∷ s) s (thousandths s x)
unfolding thousandths
unsigned_whole d s l long r = tt
unsigned_whole d s l (run w n) r =
    joined ((48 + d) ∷ s) s w n (suc n) (omega arith) (omega (arith, r.0)) (first_digit l r.1) (after-whole (drop n s) w n) (following_is (drop n s) w n)

signed_whole : (s : List ℕ) (x : Run) → Begins 7 s x → MagnitudeIs s s (thousandths s x)
unfolding thousandths
signed_whole s long r = tt
signed_whole s (run w n) r = joined s s w n n r.0 r.1 r.2 (after-whole (drop n s) w n) (following_is (drop n s) w n)

no_sign : (b : ℕ) (s : List ℕ) (x : HeadDigits) → MagnitudeIs (b ∷ s) s x → HeadIs false b s x
no_sign b s no_head r = tt
no_sign b s (sized h x k) r = unsigned r

a_sign : (tabs m : Bool) (b : ℕ) (s : List ℕ) → Back tabs b (sign m) → (x : HeadDigits) → MagnitudeIs s s x → HeadIs m b s x
a_sign tabs m b s e no_head r = tt
a_sign tabs true b s e (sized h x k) r = rw e (negative r)
a_sign tabs false b s e (sized h x k) r = rw e (positive r)

pub unsigned_is : (d b : ℕ) (s : List ℕ) → d < 10 → b ≡ 48 + d → HeadIs false b s (thousandths s (digits s 6 d 0))
unsigned_is d b s l e = rw e (no_sign (48 + d) s (thousandths s (digits s 6 d 0)) (unsigned_whole d s l (digits s 6 d 0) (follows s 6 d)))

pub signed_is : (tabs m : Bool) (b : ℕ) (s : List ℕ) → Back tabs b (sign m) → HeadIs m b s (thousandths s (some (digits s 7 0 0)))
signed_is tabs m b s e = a_sign tabs m b s e (thousandths s (some (digits s 7 0 0))) (signed_whole s (some (digits s 7 0 0)) (begins s 7))
