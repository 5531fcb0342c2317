-- Lines of at most 80 bytes (02, T-06): those that are spelled, and those in which reading finds no longer one, both ways. Assumes nothing.
use Rattle.std.specs.Prelude.{◌≡◌, refl, true, false, List, [], ◌∷◌, ℕ, zero, suc, ◌≤◌, ltb, eqb}
use Rattle.std.proofs.Common.{◌∙◌, not-suc-le-zero, le_of_suc-le-suc, ltb-false, eqb-true}
use native.Mathlib.Omega.{arith}
use Rattle.terms.specs.Logic.{pick, both, by_case, zero_one, no_way, both_true}
use Rattle.table_spec.specs.Frame.{longest_line}
use Rattle.table_spec.specs.Reading.{starts, line_length, LongLine, all_short, long_at, long_line, Answer, refuse, accept, sooner}
use Rattle.table_spec.specs.ReadingLaws.{no_accept, begun}
use Rattle.table_law.specs.Spelling.{Short, over, lf, cr_lf, byte}

-- ---- lines that are spelled short are short

short_length : {m : ℕ} {s : List ℕ} → Short m s → line_length s ≤ m
unfolding line_length
short_length over = omega arith
short_length (lf r) = omega arith
short_length (cr_lf r) = omega arith
short_length (byte {m = m} {b = b} {s = s} r) =
    let z = short_length r in
    by_case (λ t. pick t 0 (pick (both (eqb b 13) (starts 10 s)) 0 (suc (line_length s))) ≤ suc m) (eqb b 10) (λ _. omega arith)
    (λ _. by_case (λ t. pick t 0 (suc (line_length s)) ≤ suc m) (both (eqb b 13) (starts 10 s)) (λ _. omega arith) (λ _. omega arith))

short_within : {m : ℕ} {s : List ℕ} → Short m s → m ≤ longest_line → (a : ℕ) → long_line false a s ≡ all_short
unfolding long_line
short_within over l a = refl
short_within (lf {s = s} r) l a = begun (suc a) s (short_length r) ∙ short_within r (omega arith) (suc a)
short_within (cr_lf {s = s} r) l a = begun (suc (suc a)) s (short_length r) ∙ short_within r (omega arith) (suc (suc a))
short_within (byte {b = b} {s = s} r) l a =
    let k = short_length r in
    let z = short_within r (omega arith) (suc a) in
    by_case (λ t. long_line t (suc a) s ≡ all_short) (eqb b 10) (λ _. begun (suc a) s (omega arith) ∙ z) (λ _. z)

pub spelled_short : {s : List ℕ} → Short longest_line s → (a : ℕ) → long_line true a s ≡ all_short
spelled_short {s} r a = begun a s (short_length r) ∙ short_within r (omega arith) a

-- ---- and the other way

no_long : {A : Type 0} {a : ℕ} → long_at a ≡ all_short → A
no_long e = zero_one cc

-- no line is long that begins here or later
pub begins_short : (a : ℕ) (s : List ℕ) → long_line true a s ≡ all_short → (line_length s ≤ longest_line) × (long_line false a s ≡ all_short)
unfolding long_line
begins_short a [] e = unfold line_length in (omega arith, refl)
begins_short a (b ∷ s) h =
    by_case (λ t. ltb longest_line (line_length (b ∷ s)) ≡ t → pick t (long_at a) (long_line (eqb b 10) (suc a) s) ≡ all_short
    → (line_length (b ∷ s) ≤ longest_line) × (long_line (eqb b 10) (suc a) s ≡ all_short)) (ltb longest_line (line_length (b ∷ s)))
    (λ _ g e. no_long e) (λ _ g e. (ltb-false longest_line (line_length (b ∷ s)) g, e)) refl h

after_lf : {s : List ℕ} → Short 0 (10 ∷ s) → Short longest_line s
after_lf (lf r) = r

-- a CR before an LF, and a byte of the line
before_lf : (b : ℕ) (s : List ℕ) → b ≡ 13 → starts 10 s ≡ true → {m : ℕ} → ((n : ℕ) → line_length s ≤ n → Short n s) → Short m (b ∷ s)
unfolding line_length
before_lf b [] e f r = no_way f
before_lf b (c ∷ s) e f r = rw (e, eqb-true c 10 f) (cr_lf (after_lf (rw (eqb-true c 10 f) at (r 0 (rw f (omega arith))))))

one_more : (b : ℕ) (s : List ℕ) (m : ℕ) → suc (line_length s) ≤ m → ((n : ℕ) → line_length s ≤ n → Short n s) → Short m (b ∷ s)
one_more b s zero l r = absurd (not-suc-le-zero l)
one_more b s (suc m) l r = byte (r m (le_of_suc-le-suc l))

pub short_from : (s : List ℕ) (m a : ℕ) → long_line false a s ≡ all_short → line_length s ≤ m → Short m s
unfolding long_line line_length
short_from [] m a e l = over
short_from (b ∷ s) m a e l =
    by_case (λ t. eqb b 10 ≡ t → long_line t (suc a) s ≡ all_short → pick t 0 (pick (both (eqb b 13) (starts 10 s)) 0 (suc (line_length s))) ≤ m → Short m (b ∷ s)) (eqb b 10)
    (λ _ g f k. let z = begins_short (suc a) s f in rw (eqb-true b 10 g) (lf (short_from s longest_line (suc a) z.1 z.0)))
    (λ _ g f. by_case (λ t. both (eqb b 13) (starts 10 s) ≡ t → pick t 0 (suc (line_length s)) ≤ m → Short m (b ∷ s)) (both (eqb b 13) (starts 10 s))
    (λ _ h k. let z = both_true (eqb b 13) (starts 10 s) h in before_lf b s (eqb-true b 13 z.0) z.1 (λ n j. short_from s n (suc a) f j))
    (λ _ h k. one_more b s m k (λ n j. short_from s n (suc a) f j)) refl) refl e l

pub short_spelled : (a : ℕ) (s : List ℕ) → long_line true a s ≡ all_short → Short longest_line s
short_spelled a s e = let z = begins_short a s e in short_from s longest_line a z.1 z.0

-- ---- 16 and the other answers

pub sooner_accept : (x : LongLine) (y : Answer) (ys : List ℕ) → sooner x y ≡ accept ys → (x ≡ all_short) × (y ≡ accept ys)
unfolding sooner
sooner_accept all_short y ys e = (refl, e)
sooner_accept (long_at a) (refuse c b) ys e =
    by_case (λ t. pick t (refuse c b) (refuse 16 a) ≡ accept ys → (long_at a ≡ all_short) × (refuse c b ≡ accept ys)) (ltb b a) (λ _ e. no_accept e) (λ _ e. no_accept e) e
sooner_accept (long_at a) (accept zs) ys e = no_accept e
