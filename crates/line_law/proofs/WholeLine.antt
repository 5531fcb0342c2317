-- THE LAW OF A WHOLE LINE: what a line does to the state of reading, its length tested first (02, T-06), and that reading goes on from there. Assumes nothing.
-- The state between lines: the points given, the last of them, and the spot.
use Rattle.std.specs.Prelude.{◌≡◌, Bool, true, false, List, [], ◌∷◌, ◌++◌, ℕ, suc, ◌+◌, ◌<◌, ltb, leb}
use Rattle.std.proofs.Math.Path.{refl}
use Rattle.std.proofs.Common.{sym, ap, arith, add-one, add-suc, suc-add, length-append, ltb-false, le-ltb, lt-ltb}
use Rattle.std.proofs.Math.ListN.{length}
use Rattle.terms.specs.Logic.{pick, by_case}
use Rattle.table_spec.specs.Frame.{Rules, longest_line}
use Rattle.table_spec.specs.Values.{Form, Spot, first, after, last_or, index}
use Rattle.table_spec.specs.Reading.{Tokens, over, fault, head, value, line, fresh, tokens, Says, adds, refuses, says, Answer, refuse, accept, push, bare, dif_before}
use Rattle.table_spec.specs.Reading.{took, checked, finish, judge, line_length, LongLine, all_short, long_at, long_line, sooner}
use Rattle.table_spec.specs.ReadingLaws.{push_none, long_first, begun}
use Rattle.line_law.specs.Places.{Placed, tokens_placed, AnswerIn, judge_in, LongIn, long_in}
use Rattle.line_law.specs.Linewise.{and_then, NoLf, linewise, within_line}
use Rattle.line_law.specs.WholeLine.{Done, refused, went, add, resume, takes, does, line_does, reading, Closed, HeadsClosed, line_starts, push_add, resume_pick, Before}

bare_same : (r y : Tokens) → Closed r → bare (and_then r y) ≡ bare r
bare_same (over a) y h = absurd h
bare_same (fault c a) y h = refl
bare_same (head a g u r) y h = absurd h
bare_same (value a v r) y h = refl
bare_same (line r) y h = refl

module _ (R : Rules) (y : Tokens) where
  took_goes : (f : ℕ → ℕ → Form → Answer) (g : ℕ → ℕ → Form → Done) (a i p : ℕ) (x : Says) → ((j q : ℕ) (r : Form) → f j q r ≡ resume (g j q r) (judge R y))
      → took R f a i p x ≡ resume (takes R g a i p x) (judge R y)
  unfolding took
  took_goes f g a i p (refuses c) h = refl
  took_goes f g a i p (adds vs r) h =
      let d = g (i + length vs) (last_or p vs) r in
      rw (resume_pick (leb (i + length vs) R.points) (add vs d) (refused 11 a) (judge R y), ← push_add vs d (judge R y), h (i + length vs) (last_or p vs) r) refl

  pub goes_on : (x : Tokens) → HeadsClosed x → (i p : ℕ) (w : Spot) → judge R (and_then x y) i p w ≡ resume (does R x i p w) (judge R y)
  unfolding judge checked does
  goes_on (over a) l i p w = push_none (judge R y i p w)
  goes_on (fault c a) l i p w = refl
  goes_on (head a h u r) l i p w =
      let d = does R r i p (first (dif_before w)) in
      rw (
        bare_same r y l.0,
        goes_on r l.1 i p (first (dif_before w)),
        resume_pick (R.passing h u (index (dif_before w) i)) (pick (bare r) (refused 7 a) d) (refused 6 a) (judge R y),
        resume_pick (bare r) (refused 7 a) d (judge R y),
      ) refl
  goes_on (value a v r) l i p w =
      took_goes (λ j q f. judge R (and_then r y) j q (after f)) (λ j q f. does R r j q (after f)) a i p (says w p v) (λ j q f. goes_on r l j q (after f))
  goes_on (line r) l i p w = goes_on r l i p w

-- tokens of a text that ends at hi are over there
then_over : (lo hi : ℕ) (x : Tokens) → Placed lo hi x → and_then x (over hi) ≡ x
then_over lo hi (over a) h = ap over (sym h.1)
then_over lo hi (fault c a) h = refl
then_over lo hi (head a g u r) h = ap (head a g u) (then_over lo hi r h.1)
then_over lo hi (value a v r) h = ap (value a v) (then_over lo hi r h.1)
then_over lo hi (line r) h = ap line (then_over lo hi r h)

add_before : (hi : ℕ) (vs : List ℕ) (d : Done) → Before hi d → Before hi (add vs d)
add_before hi vs (refused c a) h = h
add_before hi vs (went us i p w) h = tt

pick_before : (hi : ℕ) (t : Bool) (x y : Done) → Before hi x → Before hi y → Before hi (pick t x y)
pick_before hi true x y h k = h
pick_before hi false x y h k = k

module _ (R : Rules) (lo hi : ℕ) where
  takes_before : (f : ℕ → ℕ → Form → Done) (a i p : ℕ) (x : Says) → a < hi → ((j q : ℕ) (r : Form) → Before hi (f j q r)) → Before hi (takes R f a i p x)
  takes_before f a i p (refuses c) l h = l
  takes_before f a i p (adds vs r) l h =
      let d = f (i + length vs) (last_or p vs) r in
      pick_before hi (leb (i + length vs) R.points) (add vs d) (refused 11 a) (add_before hi vs d (h (i + length vs) (last_or p vs) r)) l

  pub does_before : (x : Tokens) → Placed lo hi x → (i p : ℕ) (w : Spot) → Before hi (does R x i p w)
  unfolding does
  does_before (over a) l i p w = tt
  does_before (fault c a) l i p w = l.1
  does_before (head a h u r) l i p w =
      let d = does R r i p (first (dif_before w)) in
      pick_before hi (R.passing h u (index (dif_before w) i)) (pick (bare r) (refused 7 a) d) (refused 6 a)
      (pick_before hi (bare r) (refused 7 a) d l.0.1 (does_before r l.1 i p (first (dif_before w)))) l.0.1
  does_before (value a v r) l i p w = takes_before (λ j q f. does R r j q (after f)) a i p (says w p v) l.0.1 (λ j q f. does_before r l.1 j q (after f))
  does_before (line r) l i p w = does_before r l i p w

-- ---- 16 and what a line does

-- what a long line says otherwise does not count
sooner_long : (a hi : ℕ) (x : Answer) → AnswerIn a hi x → sooner (long_at a) x ≡ refuse 16 a
unfolding sooner
sooner_long a hi (refuse c b) h = rw (le-ltb b a h.0) refl
sooner_long a hi (accept ys) h = refl

sooner_push : (x : LongLine) (us : List ℕ) (y : Answer) → sooner x (push us y) ≡ push us (sooner x y)
unfolding sooner push
sooner_push all_short us y = refl
sooner_push (long_at a) us (refuse c b) = by_case (λ t. pick t (refuse c b) (refuse 16 a) ≡ push us (pick t (refuse c b) (refuse 16 a))) (ltb b a) (λ _. refl) (λ _. refl)
sooner_push (long_at a) us (accept ys) = refl

-- a line after this one that is too long comes later than what this one does
sooner_later : (z hi : ℕ) (x : LongLine) → LongIn z hi x → (d : Done) → Before z d → (k : ℕ → ℕ → Spot → Answer)
    → sooner x (resume d k) ≡ resume d (λ i p w. sooner x (k i p w))
unfolding sooner
sooner_later z hi all_short l (refused c b) h k = refl
sooner_later z hi (long_at a) l (refused c b) h k = let j = l.0 in rw (lt-ltb b a (omega arith)) refl
sooner_later z hi x l (went vs i p w) h k = sooner_push x vs (k i p w)

-- ---- the length of a line, and of the lines after it

length_line : (w s t : List ℕ) → line_length (w ++ 10 ∷ s) ≡ line_length (w ++ 10 ∷ t)
unfolding line_length
length_line [] s t = refl
length_line (b ∷ []) s t = refl
length_line (b ∷ c ∷ w) s t = rw (length_line (c ∷ w) s t) refl

short_then : (w s : List ℕ) (a : ℕ) → NoLf w → long_line false a (w ++ 10 ∷ s) ≡ long_line true (a + suc (length w)) s
unfolding long_line
short_then [] s a h = rw (add-one a) refl
short_then (b ∷ w) s a h = rw (h.0, add-suc a (suc (length w)), ← suc-add a (suc (length w))) (short_then w s (suc a) h.1)

short_last : (w : List ℕ) (a : ℕ) → NoLf w → long_line false a w ≡ all_short
unfolding long_line
short_last [] a h = refl
short_last (b ∷ w) a h = rw h.0 (short_last w (suc a) h.1)

-- ---- the law

module _ (R : Rules) where
  -- the text s begins with a line t, which ends at z, and y are the tokens of what follows: 16 first, then what the line does, then what follows it
  lined : (t s : List ℕ) (a z i p : ℕ) (v : Spot) (y : Tokens) (later : LongLine) → line_length s ≡ line_length t → Placed a z (tokens R.tabs t 0 a fresh)
      → tokens R.tabs s 0 a fresh ≡ and_then (tokens R.tabs t 0 a fresh) y
      → long_line false a s ≡ later → LongIn z (a + length s) later
      → reading R s a i p v ≡ resume (line_does R t a i p v) (λ j q u. sooner later (judge R y j q u))
  lined t s a z i p v y later same placed split next within =
      let x = tokens R.tabs t 0 a fresh in
      let hi = a + length s in
      let long = ltb longest_line (line_length t) in
      by_case (λ q. long ≡ q → reading R s a i p v ≡ resume (pick q (refused 16 a) (does R x i p v)) (λ j k u. sooner later (judge R y j k u))) long
      (λ _ e. rw (long_first a s (rw same e)) (sooner_long a hi (judge R (tokens R.tabs s 0 a fresh) i p v) (judge_in a hi R (tokens R.tabs s 0 a fresh) (tokens_placed R.tabs s a) i p v)))
      (λ _ e. rw (begun a s (rw same (ltb-false longest_line (line_length t) e)), next, split, goes_on R y x (line_starts R.tabs t a).1 i p v)
      (sooner_later z hi later within (does R x i p v) (does_before R a z x placed i p v) (judge R y))) refl

  -- a line w with its LF, and then s
  pub line_then : (w s : List ℕ) (a i p : ℕ) (v : Spot) → NoLf w → reading R (w ++ 10 ∷ s) a i p v ≡ resume (line_does R (w ++ 10 ∷ []) a i p v) (reading R s (a + suc (length w)))
  line_then w s a i p v h =
      let z = a + suc (length w) in
      let l = length-append w (10 ∷ s) in
      let e : a + length (w ++ 10 ∷ []) ≡ z = omega (arith, length-append w (10 ∷ [])) in
      lined (w ++ 10 ∷ []) (w ++ 10 ∷ s) a z i p v (tokens R.tabs s 0 z fresh) (long_line true z s) (length_line w s []) (rw e at (tokens_placed R.tabs (w ++ 10 ∷ []) a))
      (linewise R.tabs w s 0 a fresh h (within_line (omega arith))) (short_then w s a h) (long_in z (a + length (w ++ 10 ∷ s)) true z s (omega arith) (omega (arith, l)))

  -- the last line w, which the end of the body ends: then 12 and 13
  pub last_line : (w : List ℕ) (a i p : ℕ) (v : Spot) → NoLf w → reading R w a i p v ≡ resume (line_does R w a i p v) (λ j q u. finish R (a + length w) j (dif_before u))
  unfolding judge sooner
  last_line w a i p v h =
      let z = a + length w in
      let k = tokens_placed R.tabs w a in
      lined w w a z i p v (over z) all_short refl k (sym (then_over a z (tokens R.tabs w 0 a fresh) k)) (short_last w a h) tt
