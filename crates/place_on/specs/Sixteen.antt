-- 16 is given for a line over 80 bytes and for nothing else, and 81 bytes of the line and the byte after them decide it (02, T-06). Assumes nothing.
use Rattle.std.specs.Prelude.{◌≡◌, refl, Bool, false, List, [], ◌∷◌, ◌++◌, ℕ, suc, ◌+◌, ◌-◌, ◌≤◌, ◌<◌, ltb, leb, eqb}
use Rattle.std.proofs.Common.{sym, subst, arith, lit<, ltb-true, ltb-false}
use Rattle.std.proofs.Math.Bool.{true}
use Rattle.std.proofs.Math.ListN.{length}
use Rattle.terms.specs.Logic.{pick, both, by_case, zero_one}
use Rattle.table_spec.specs.Frame.{Rules, longest_line}
use Rattle.table_spec.specs.Values.{Value, own, gap, by, times, Form, Own, Gap, By, Dup, Spot, first, after, ordinate, moved, copies, last_or, index}
use Rattle.table_spec.specs.Reading.{Tokens, over, fault, head, value, line, fresh, tokens, Says, adds, refuses, in_range, all_in, again, says, Answer, refuse, accept, push, bare, dif_before}
use Rattle.table_spec.specs.Reading.{took, checked, finish, judge, read_lines, starts, line_length, LongLine, all_short, long_at, long_line, sooner, read}
use Rattle.table_spec.specs.ReadingLaws.{no_accept}
use Rattle.line_law.specs.Every.{every}
use Rattle.line_law.specs.Places.{LongIn, long_in}
use Rattle.line_law.specs.Ahead.{starts_same}

-- ---- lines, however long they are, are never refused with 16

abbrev LowFaults : Tokens → Type 0
LowFaults (over a) = Unit {0}
LowFaults (fault c a) = c < 16
LowFaults (head a h u r) = LowFaults r
LowFaults (value a v r) = LowFaults r
LowFaults (line r) = LowFaults r

low_faults : (tabs : Bool) (s : List ℕ) → LowFaults (tokens tabs s 0 0 fresh)
low_faults tabs s =
    every 0 (length s) LowFaults LowFaults
    (record { s_over = tt; s_fault = λ c b l x. omega arith; s_head = λ b h u r x z. z; i_fault = λ c b l x. omega arith; i_value = λ b v r x z. z; i_line = λ r x. x })
    tabs s 0 0 fresh (omega arith) (omega arith)

-- a value is refused with 8, 9 or 10
abbrev pub LowSays : Says → Type 0
LowSays (adds us f) = Unit {0}
LowSays (refuses c) = (7 < c) × (c < 16)

says_pick : (t : Bool) (x y : Says) → LowSays x → LowSays y → LowSays (pick t x y)
says_pick true x y h k = h
says_pick false x y h k = k

again_low : (r : Form) (n p : ℕ) → LowSays (again r n p)
unfolding again
again_low Own n p = tt
again_low Gap n p = tt
again_low (By m d) n p = says_pick (all_in (copies n (By m d) p)) (adds (copies n (By m d) p) (Dup true)) (refuses 9) tt (lit< tt, lit< tt)
again_low (Dup b) n p = (lit< tt, lit< tt)

pub says_low : (w : Spot) (p : ℕ) (x : Value) → LowSays (says w p x)
unfolding says
says_low (first true) p (own m v) =
    let ten = pick (eqb (ordinate m v) p) (adds [] Own) (refuses 10) in
    says_pick (leb v 2147483647) ten (refuses 9) (says_pick (eqb (ordinate m v) p) (adds [] Own) (refuses 10) tt (lit< tt, lit< tt)) (lit< tt, lit< tt)
says_low (first false) p (own m v) = says_pick (leb v 2147483647) (adds (ordinate m v ∷ []) Own) (refuses 9) tt (lit< tt, lit< tt)
says_low (after r) p (own m v) = says_pick (leb v 2147483647) (adds (ordinate m v ∷ []) Own) (refuses 9) tt (lit< tt, lit< tt)
says_low (first true) p gap = (lit< tt, lit< tt)
says_low (first false) p gap = tt
says_low (after r) p gap = tt
says_low (first c) p (by m d) = (lit< tt, lit< tt)
says_low (after r) p (by m d) =
    let moves = adds (moved m d p ∷ []) (By m d) in
    says_pick (eqb p 0) (refuses 8) (pick (in_range (moved m d p)) moves (refuses 9)) (lit< tt, lit< tt) (says_pick (in_range (moved m d p)) moves (refuses 9) tt (lit< tt, lit< tt))
says_low (first c) p (times n) = (lit< tt, lit< tt)
says_low (after r) p (times n) = says_pick (ltb n 2) (refuses 8) (again r (n - 1) p) (lit< tt, lit< tt) (again_low r (n - 1) p)

abbrev LowNumber : Answer → Type 0
LowNumber (refuse c a) = c < 16
LowNumber (accept ys) = Unit {0}

push_low : (us : List ℕ) (x : Answer) → LowNumber x → LowNumber (push us x)
unfolding push
push_low us (refuse c a) h = h
push_low us (accept ys) h = tt

low_pick : (t : Bool) (x y : Answer) → LowNumber x → LowNumber y → LowNumber (pick t x y)
low_pick true x y h k = h
low_pick false x y h k = k

module _ (R : Rules) where
  took_low : (f : ℕ → ℕ → Form → Answer) (a i p : ℕ) (x : Says) → LowSays x → ((j q : ℕ) (g : Form) → LowNumber (f j q g)) → LowNumber (took R f a i p x)
  unfolding took
  took_low f a i p (refuses c) l h = l.1
  took_low f a i p (adds vs r) l h =
      let x = f (i + length vs) (last_or p vs) r in
      low_pick (leb (i + length vs) R.points) (push vs x) (refuse 11 a) (push_low vs x (h (i + length vs) (last_or p vs) r)) (lit< tt)

  judge_low : (x : Tokens) → LowFaults x → (i p : ℕ) (w : Spot) → LowNumber (judge R x i p w)
  unfolding judge checked finish
  judge_low (over a) l i p w =
      let y = pick (dif_before w) (refuse 13 a) (accept []) in
      low_pick (ltb i R.points) (refuse 12 a) y (lit< tt) (low_pick (dif_before w) (refuse 13 a) (accept []) (lit< tt) tt)
  judge_low (fault c a) l i p w = l
  judge_low (head a h u r) l i p w =
      let y = judge R r i p (first (dif_before w)) in
      low_pick (R.passing h u (index (dif_before w) i)) (pick (bare r) (refuse 7 a) y) (refuse 6 a)
      (low_pick (bare r) (refuse 7 a) y (lit< tt) (judge_low r l i p (first (dif_before w)))) (lit< tt)
  judge_low (value a v r) l i p w = took_low (λ j q f. judge R r j q (after f)) a i p (says w p v) (says_low w p v) (λ j q f. judge_low r l j q (after f))
  judge_low (line r) l i p w = judge_low r l i p w

  lines_low : (s : List ℕ) → LowNumber (read_lines R s)
  unfolding read_lines
  lines_low s = judge_low (tokens R.tabs s 0 0 fresh) (low_faults R.tabs s) 0 0 (after Own)

-- ---- which of the two a refusal is

module _ (c z : ℕ) where
  number_of : {d a : ℕ} → refuse d a ≡ refuse c z → d ≡ c
  number_of e = cc

  -- every other number is what the lines say
  lines_sooner : (x : LongLine) (y : Answer) → (c ≡ 16 → ⊥) → sooner x y ≡ refuse c z → y ≡ refuse c z
  unfolding sooner
  lines_sooner all_short y n e = e
  lines_sooner (long_at a) (refuse d b) n e =
      by_case (λ t. pick t (refuse d b) (refuse 16 a) ≡ refuse c z → refuse d b ≡ refuse c z) (ltb b a) (λ _ e. e) (λ _ e. absurd (n (sym (number_of e)))) e
  lines_sooner (long_at a) (accept ys) n e = absurd (n (sym (number_of e)))

  long_sooner : (x : LongLine) (y : Answer) → LowNumber y → c ≡ 16 → sooner x y ≡ refuse c z → x ≡ long_at z
  unfolding sooner
  long_sooner all_short (refuse d b) l g e = let n = number_of e in absurd (omega arith)
  long_sooner all_short (accept ys) l g e = no_accept (sym e)
  long_sooner (long_at a) (refuse d b) l g e =
      by_case (λ t. pick t (refuse d b) (refuse 16 a) ≡ refuse c z → long_at a ≡ long_at z) (ltb b a) (λ _ e. let n = number_of e in absurd (omega arith)) (λ _ e. cc) e
  long_sooner (long_at a) (accept ys) l g e = cc

  pub other_number : (R : Rules) (s : List ℕ) → (c ≡ 16 → ⊥) → read R s ≡ refuse c z → read_lines R s ≡ refuse c z
  unfolding read
  other_number R s n e = lines_sooner (long_line true 0 s) (read_lines R s) n e

  pub sixteen_long : (R : Rules) (s : List ℕ) → c ≡ 16 → read R s ≡ refuse c z → long_line true 0 s ≡ long_at z
  unfolding read
  sixteen_long R s g e = long_sooner (long_line true 0 s) (read_lines R s) (lines_low R s) g e

-- ---- the bytes that decide it

-- a line that is over m bytes with the one rest and not with the other has at most m bytes before the byte y
length_cut : (y : ℕ) (w s t : List ℕ) (m : ℕ) → line_length (w ++ y ∷ t) ≤ m → m < line_length (w ++ y ∷ s) → length w ≤ m
unfolding line_length
length_cut y [] s t m h k = omega arith
length_cut y (b ∷ w) s t m h k =
    let q = both (eqb b 13) (starts 10 (w ++ y ∷ t)) in
    by_case (λ p. pick p 0 (pick q 0 (suc (line_length (w ++ y ∷ t)))) ≤ m → m < pick p 0 (pick q 0 (suc (line_length (w ++ y ∷ s)))) → suc (length w) ≤ m) (eqb b 10)
    (λ _ h k. absurd (omega arith))
    (λ _. by_case (λ p. pick p 0 (suc (line_length (w ++ y ∷ t))) ≤ m → m < pick p 0 (suc (line_length (w ++ y ∷ s))) → suc (length w) ≤ m) q
    (λ _ h k. absurd (omega arith))
    (λ _ h k. let z = length_cut y w s t (m - 1) (omega arith) (omega arith) in omega arith)) h (rw (starts_same 10 y w s t) at k)

pub long_on : (y : ℕ) (begins : Bool) (a : ℕ) (w s t : List ℕ) (z : ℕ) → z + 81 ≤ a + length w
    → long_line begins a (w ++ y ∷ s) ≡ long_at z → long_line begins a (w ++ y ∷ t) ≡ all_short → ⊥
unfolding long_line
long_on y begins a [] s t z l e f = let h = subst (LongIn a (a + length (y ∷ s))) e (long_in a (a + length (y ∷ s)) begins a (y ∷ s) (omega arith) (omega arith)) in omega (arith, h.0)
long_on y false a (b ∷ w) s t z l e f = long_on y (eqb b 10) (suc a) w s t z (omega arith) e f
long_on y true a (b ∷ w) s t z l e f =
    let m = line_length (b ∷ w ++ y ∷ s) in let n = line_length (b ∷ w ++ y ∷ t) in
    by_case (λ q. ltb longest_line n ≡ q → pick q (long_at a) (long_line (eqb b 10) (suc a) (w ++ y ∷ t)) ≡ all_short → ⊥) (ltb longest_line n)
    (λ _ _ f. zero_one cc)
    (λ _ h f. by_case (λ q. ltb longest_line m ≡ q → pick q (long_at a) (long_line (eqb b 10) (suc a) (w ++ y ∷ s)) ≡ long_at z → ⊥) (ltb longest_line m)
    (λ _ g e. let k = length_cut y (b ∷ w) s t longest_line (ltb-false longest_line n h) (ltb-true longest_line m g) in let p : a ≡ z = cc in omega arith)
    (λ _ g e. long_on y (eqb b 10) (suc a) w s t z (omega arith) e f) refl e) refl f
