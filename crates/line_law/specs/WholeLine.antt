-- THE LAW OF A WHOLE LINE: what a line does to the state of reading, its length tested first (02, T-06), and that reading goes on from there. Assumes nothing.
-- The state between lines: the points given, the last of them, and the spot.
use Rattle.std.specs.Prelude.{◌≡◌, Bool, true, false, List, [], ◌++◌, ℕ, ◌+◌, ◌<◌, ltb, leb}
use Rattle.std.proofs.Math.Path.{refl}
use Rattle.std.proofs.Common.{arith}
use Rattle.std.proofs.Math.ListN.{length}
use Rattle.terms.specs.Logic.{pick}
use Rattle.table_spec.specs.Frame.{Rules, longest_line}
use Rattle.table_spec.specs.Values.{Form, Own, Spot, first, after, last_or, index}
use Rattle.table_spec.specs.Reading.{Tokens, over, fault, head, value, line, fresh, tokens, Says, adds, refuses, says, Answer, refuse, push, bare, dif_before}
use Rattle.table_spec.specs.Reading.{judge, read_lines, line_length, long_line, sooner, read}
use Rattle.table_spec.specs.ReadingLaws.{push_push}
use Rattle.line_law.specs.Every.{every}

-- ---- what a line does

-- a refusal, its number and place; or the points that were added, how many there are then, the last of them, and the spot
pub data Done : Type 0 where
  refused : ℕ → ℕ → Done
  went : List ℕ → ℕ → ℕ → Spot → Done

abbrev pub add : List ℕ → Done → Done
add vs (refused c a) = refused c a
add vs (went us i p w) = went (vs ++ us) i p w

-- reading goes on from there
abbrev pub resume : Done → (ℕ → ℕ → Spot → Answer) → Answer
resume (refused c a) k = refuse c a
resume (went vs i p w) k = push vs (k i p w)

module _ (R : Rules) where
  abbrev pub takes : (ℕ → ℕ → Form → Done) → ℕ → ℕ → ℕ → Says → Done
  takes f a i p (refuses c) = refused c a
  takes f a i p (adds vs r) = pick (leb (i + length vs) R.points) (add vs (f (i + length vs) (last_or p vs) r)) (refused 11 a)

  -- the tokens of a line, judged; where they are over the line is done
  unfoldable pub does : Tokens → ℕ → ℕ → Spot → Done
  does (over a) i p w = went [] i p w
  does (fault c a) i p w = refused c a
  does (head a h u r) i p w = pick (R.passing h u (index (dif_before w) i)) (pick (bare r) (refused 7 a) (does r i p (first (dif_before w)))) (refused 6 a)
  does (value a v r) i p w = takes (λ j q f. does r j q (after f)) a i p (says w p v)
  does (line r) i p w = does r i p w

  -- a line that begins at the place a, with its LF if it has one: "16 .. tested before everything else on that line"
  abbrev pub line_does : List ℕ → ℕ → ℕ → ℕ → Spot → Done
  line_does w a i p v = pick (ltb longest_line (line_length w)) (refused 16 a) (does (tokens R.tabs w 0 a fresh) i p v)

  -- what a text says that begins at the place a, where a line begins
  abbrev pub reading : List ℕ → ℕ → ℕ → ℕ → Spot → Answer
  reading s a i p v = sooner (long_line true a s) (judge R (tokens R.tabs s 0 a fresh) i p v)

  pub read_is : (s : List ℕ) → read R s ≡ reading s 0 0 0 (after Own)
  unfolding read read_lines
  read_is s = refl

-- ---- after a head the tokens do not end before the line does

abbrev pub Closed : Tokens → Type 0
Closed (over a) = ⊥
Closed (fault c a) = Unit {0}
Closed (head a h u r) = ⊥
Closed (value a v r) = Unit {0}
Closed (line r) = Unit {0}

abbrev pub HeadsClosed : Tokens → Type 0
HeadsClosed (over a) = Unit {0}
HeadsClosed (fault c a) = Unit {0}
HeadsClosed (head a h u r) = Closed r × HeadsClosed r
HeadsClosed (value a v r) = HeadsClosed r
HeadsClosed (line r) = HeadsClosed r

-- before a head there is no value and no line's end
abbrev pub Starts : Tokens → Type 0
Starts (over a) = Unit {0}
Starts (fault c a) = Unit {0}
Starts (head a h u r) = Unit {0}
Starts (value a v r) = ⊥
Starts (line r) = ⊥

pub line_starts : (tabs : Bool) (s : List ℕ) (a : ℕ) → Starts (tokens tabs s 0 a fresh) × HeadsClosed (tokens tabs s 0 a fresh)
line_starts tabs s a =
    every a (a + length s) (λ x. Starts x × HeadsClosed x) (λ x. Closed x × HeadsClosed x)
    (record {
      s_over = (tt, tt);
      s_fault = λ c b n x. (tt, tt);
      s_head = λ b h u r x y. (tt, y);
      i_fault = λ c b n x. (tt, tt);
      i_value = λ b v r x y. (tt, y.1);
      i_line = λ r x. (tt, x.1);
    }) tabs s 0 a fresh (omega arith) refl

-- ---- what the tokens of a line do, and judging goes on

pub push_add : (vs : List ℕ) (d : Done) (k : ℕ → ℕ → Spot → Answer) → push vs (resume d k) ≡ resume (add vs d) k
unfolding push
push_add vs (refused c a) k = refl
push_add vs (went us i p w) k = push_push vs us (k i p w)

pub resume_pick : (t : Bool) (x y : Done) (k : ℕ → ℕ → Spot → Answer) → resume (pick t x y) k ≡ pick t (resume x k) (resume y k)
resume_pick true x y k = refl
resume_pick false x y k = refl

-- ---- a line is refused at one of its bytes

abbrev pub Before : ℕ → Done → Type 0
Before hi (refused c a) = a < hi
Before hi (went vs i p w) = Unit {0}
