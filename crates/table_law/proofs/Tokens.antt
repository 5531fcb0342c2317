-- Values and ends of lines that are spelled and those that are read, both ways (01, "Values" and "Spelling of a body"). Assumes nothing.
use Rattle.std.specs.Prelude.{◌≡◌, refl, Bool, true, false, List, [], ◌∷◌, ℕ, zero, suc, ◌+◌, ◌*◌, ◌≤◌, ◌<◌, eqb, drop}
use Rattle.std.proofs.Common.{ap, arith, ne_eqb, eqb-true}
use Rattle.std.proofs.lemmas.Bool.{eqb-false}
use Rattle.terms.specs.Logic.{pick, by_case}
use Rattle.alphabet_spec.specs.Kinds.{Lead, sqz, dif, dup, Pseudo, sqz_up, sqz_down, dif_zero, dif_up, dif_down}
use Rattle.alphabet_spec.specs.Digits.{Run, long, run, digits, some}
use Rattle.alphabet_spec.specs.Bytes.{Byte, digit, lead, sign, quest, blank, point, lf, cr, dollar, other, kind}
use Rattle.alphabet_spec.proofs.KindLaws.{digit_kind, pseudo_kind, Back}
use Rattle.alphabet_spec.specs.SpelledDigits.{SpelledDigits, none, more}
use Rattle.alphabet_spec.proofs.SpelledDigitLaws.{first_digit, digits_run, digits_some, Follows, follows, Begins, begins}
use Rattle.table_spec.specs.Values.{Value, own, room, value_of}
use Rattle.table_spec.specs.Reading.{Tokens, value, line, comment, Ending, ends as ends-in, none as no_end, ending, fresh, inner, valued, opening, inside, step, stop, tokens}
use Rattle.table_law.specs.Spelling.{Spelled, plus, minus, plain, sqz_zero, sqz_more, dif_zero as dif_none, dif_more, dup_more, missing, Comment, cut, ends, any}
use Rattle.table_law.specs.Spelling.{LineEnd, over as end_over, lf as end_lf, cr_lf, comment as end_comment}
use Rattle.table_law.specs.Runs.{Past, here, byte, digits_past}
use Rattle.table_law.specs.Heads.{Apart, skip}
use Rattle.table_law.proofs.Heads.{apart_digit}

-- ---- an end of a line that is spelled is read

comment_past : {t s : List ℕ} → Comment t s → Past (comment t) t s
unfolding comment
comment_past cut = here
comment_past ends = byte here
comment_past (any {b = b} h r) = rw (ne_eqb b 10 h) (byte (comment_past r))

-- before a head a line's end gives no token, after one it gives a `line`
pub end_fresh : (tabs : Bool) {t s : List ℕ} → LineEnd t s → (a : ℕ) → (c : ℕ) × (tokens tabs t 0 a fresh ≡ tokens tabs s 0 c fresh)
unfolding tokens step opening ending kind
end_fresh tabs end_over a = (a, refl)
end_fresh tabs end_lf a = (suc a, refl)
end_fresh tabs cr_lf a = (suc (suc a), refl)
end_fresh tabs (end_comment r) a = skip tabs (comment_past r) (suc (suc a)) fresh

pub end_inner : (tabs : Bool) {t s : List ℕ} → LineEnd t s → (a : ℕ) (q : Bool) → (c : ℕ) × (tokens tabs t 0 a (inner q) ≡ line (tokens tabs s 0 c fresh))
unfolding tokens step inside ending kind stop
end_inner tabs end_over a q = (a, refl)
end_inner tabs end_lf a q = (suc a, refl)
end_inner tabs cr_lf a q = (suc (suc a), refl)
end_inner tabs (end_comment r) a q = let z = skip tabs (comment_past r) (suc (suc a)) fresh in (z.0, ap line z.1)

-- ---- a value that is spelled is read

-- the token of a value, and what follows
abbrev pub Token : Bool → ℕ → Value → Tokens → List ℕ → Type 0
Token tabs a x y s = (c : ℕ) × (y ≡ value a x (tokens tabs s 0 c (inner false)))

signed_read : (tabs : Bool) (a : ℕ) (m : Bool) {n v : ℕ} {t s : List ℕ} → 0 < n → n ≤ 10 → SpelledDigits n 0 v t s → Apart tabs s
    → Token tabs a (own m v) (valued (λ n. tokens tabs t n (suc a)) a (own m) (some (digits t 10 0 0))) s
signed_read tabs a m {s = s} i l r h = let y = skip tabs (digits_past r) (suc a) (inner false) in (y.0, rw (digits_some 10 r (apart_digit tabs s h) i l, y.1) refl)

plain_read : (tabs : Bool) (a : ℕ) {n v : ℕ} {t s : List ℕ} → 0 < n → n ≤ 10 → SpelledDigits n 0 v t s → Apart tabs s → Token tabs a (own false v) (tokens tabs t 0 a (inner true)) s
unfolding tokens step inside
plain_read tabs a i l none h = absurd (omega arith)
plain_read tabs a {s = s} i l (more {d = d} b r) h =
    let y = skip tabs (digits_past r) (suc a) (inner false) in
    let e : 0 * 10 + d ≡ d = omega arith in
    (y.0, rw (digit_kind tabs d b, rw e at (digits_run 9 r (apart_digit tabs s h) (omega arith)), y.1) refl)

-- a pseudo-digit and no more digits than there is room for
packed_read : (tabs : Bool) (a : ℕ) (q : Bool) {k : Lead} {n d b v : ℕ} {t s : List ℕ} → Pseudo k d b → n ≤ room k d → SpelledDigits n d v t s → Apart tabs s
    → Token tabs a (value_of k v) (tokens tabs (b ∷ t) 0 a (inner q)) s
unfolding tokens step inside
packed_read tabs a q {k = k} {d = d} {s = s} g l r h =
    let y = skip tabs (digits_past r) (suc a) (inner false) in
    (y.0, rw (pseudo_kind tabs g, digits_run (room k d) r (apart_digit tabs s h) l, y.1) refl)

sqz_room : (m : Bool) (d : ℕ) → 0 < d → room (sqz m) d ≡ 9
sqz_room m zero h = absurd (omega arith)
sqz_room m (suc d) h = refl

dif_room : (m : Bool) (d : ℕ) → 0 < d → room (dif m) d ≡ 9
dif_room m zero h = absurd (omega arith)
dif_room m (suc d) h = refl

pub value_read : (tabs : Bool) (a : ℕ) {q : Bool} {x : Value} {t s : List ℕ} → Spelled q x t s → Apart tabs s → Token tabs a x (tokens tabs t 0 a (inner q)) s
unfolding tokens step inside kind
value_read tabs a (plus i l r) h = signed_read tabs a false i l r h
value_read tabs a (minus i l r) h = signed_read tabs a true i l r h
value_read tabs a (plain i l r) h = plain_read tabs a i l r h
value_read tabs a {q} sqz_zero h = packed_read tabs a q (sqz_up (omega arith)) (omega arith) none h
value_read tabs a {q} (sqz_more {m = m} {d = d} g z l r) h = packed_read tabs a q g (rw (sqz_room m d z) l) r h
value_read tabs a {q} dif_none h = packed_read tabs a q dif_zero (omega arith) none h
value_read tabs a {q} (dif_more {m = m} {d = d} g z l r) h = packed_read tabs a q g (rw (dif_room m d z) l) r h
value_read tabs a {q} (dup_more g l r) h = packed_read tabs a q g l r h
value_read tabs a missing h = (suc a, refl)

-- ---- an end of a line that is read is spelled

comment_is : (s : List ℕ) → Comment s (drop (comment s) s)
unfolding comment
comment_is [] = cut
comment_is (b ∷ s) =
    by_case (λ t. eqb b 10 ≡ t → Comment (b ∷ s) (drop (pick t 1 (suc (comment s))) (b ∷ s))) (eqb b 10)
    (λ _ e. rw (eqb-true b 10 e) ends) (λ _ e. any (eqb-false b 10 e) (comment_is s)) refl

-- a line's end whose first byte is b
abbrev pub EndIs : ℕ → List ℕ → Ending → Type 0
EndIs b s (ends-in n) = LineEnd (b ∷ s) (drop n s)
EndIs b s no_end = Unit {0}

pub ending_is : (tabs : Bool) (b : ℕ) (s : List ℕ) (c : Byte) → Back tabs b c → EndIs b s (ending c s)
unfolding ending
ending_is tabs b s (digit d) h = tt
ending_is tabs b s (lead k d) h = tt
ending_is tabs b s (sign m) h = tt
ending_is tabs b s quest h = tt
ending_is tabs b s blank h = tt
ending_is tabs b s point h = tt
ending_is tabs b s lf h = rw h end_lf
ending_is tabs b [] cr h = tt
ending_is tabs b (x ∷ s) cr h =
    by_case (λ t. eqb x 10 ≡ t → EndIs b (x ∷ s) (pick t (ends-in 1) no_end)) (eqb x 10) (λ _ e. rw (h, eqb-true x 10 e) cr_lf) (λ _ e. tt) refl
ending_is tabs b [] dollar h = tt
ending_is tabs b (x ∷ s) dollar h =
    by_case (λ t. eqb x 36 ≡ t → EndIs b (x ∷ s) (pick t (ends-in (suc (comment s))) no_end)) (eqb x 36)
    (λ _ e. rw (h, eqb-true x 36 e) (end_comment (comment_is s))) (λ _ e. tt) refl
ending_is tabs b s other h = tt

-- ---- a value that is read is spelled

-- a value of the kind f, whose first byte is b; q: directly after a blank
abbrev pub ValueIs : Bool → (ℕ → Value) → ℕ → List ℕ → Run → Type 0
ValueIs q f b s long = Unit {0}
ValueIs q f b s (run v k) = Spelled q (f v) (b ∷ s) (drop k s)

-- `@` and `%`
sqz_at_zero : {m : Bool} {d b : ℕ} → Pseudo (sqz m) d b → d ≡ 0 → (m ≡ false) × (b ≡ 64)
sqz_at_zero (sqz_up l) e = (refl, omega arith)
sqz_at_zero (sqz_down z l) e = absurd (omega arith)

dif_at_zero : {m : Bool} {d b : ℕ} → Pseudo (dif m) d b → d ≡ 0 → (m ≡ false) × (b ≡ 37)
dif_at_zero dif_zero e = (refl, refl)
dif_at_zero (dif_up z l) e = absurd (omega arith)
dif_at_zero (dif_down z l) e = absurd (omega arith)

no_digits : {n v w : ℕ} {t s : List ℕ} → SpelledDigits n v w t s → n ≤ 0 → (n ≡ 0) × (w ≡ v)
no_digits none l = (refl, refl)
no_digits (more b r) l = absurd (omega arith)

packs : (q : Bool) (k : Lead) (d b : ℕ) (s : List ℕ) → Pseudo k d b → (x : Run) → Follows (room k d) d s x → ValueIs q (value_of k) b s x
packs q k d b s g long r = tt
packs q (sqz m) zero b s g (run v j) r = let z = sqz_at_zero g refl in let y = no_digits r.1 r.0 in rw (y.0, y.1, z.0, z.1) sqz_zero
packs q (sqz m) (suc d) b s g (run v j) r = sqz_more g (omega arith) r.0 r.1
packs q (dif m) zero b s g (run v j) r = let z = dif_at_zero g refl in let y = no_digits r.1 r.0 in rw (y.0, y.1, z.0, z.1) dif_none
packs q (dif m) (suc d) b s g (run v j) r = dif_more g (omega arith) r.0 r.1
packs q dup d b s g (run v j) r = dup_more g r.0 r.1

pub packed_is : (q : Bool) (k : Lead) (d b : ℕ) (s : List ℕ) → Pseudo k d b → ValueIs q (value_of k) b s (digits s (room k d) d 0)
packed_is q k d b s g = packs q k d b s g (digits s (room k d) d 0) (follows s (room k d) d)

plains : (d b : ℕ) (s : List ℕ) → d < 10 → b ≡ 48 + d → (x : Run) → Follows 9 d s x → ValueIs true (own false) b s x
plains d b s l e long r = tt
plains d b s l e (run v j) r = rw e (plain {n = suc j} (omega arith) (omega (arith, r.0)) (first_digit l r.1))

pub plain_is : (d b : ℕ) (s : List ℕ) → d < 10 → b ≡ 48 + d → ValueIs true (own false) b s (digits s 9 d 0)
plain_is d b s l e = plains d b s l e (digits s 9 d 0) (follows s 9 d)

signs : (tabs q m : Bool) (b : ℕ) (s : List ℕ) → Back tabs b (sign m) → (x : Run) → Begins 10 s x → ValueIs q (own m) b s x
signs tabs q m b s e long r = tt
signs tabs q true b s e (run v j) r = rw e (minus r.0 r.1 r.2)
signs tabs q false b s e (run v j) r = rw e (plus r.0 r.1 r.2)

pub signed_is : (tabs q m : Bool) (b : ℕ) (s : List ℕ) → Back tabs b (sign m) → ValueIs q (own m) b s (some (digits s 10 0 0))
signed_is tabs q m b s e = signs tabs q m b s e (some (digits s 10 0 0)) (begins s 10)
