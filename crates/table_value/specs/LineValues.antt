-- What the values of a line say, one after the other, up to what is no value or to the first fault (01, "Meaning", "Checks", refusals 3, 5 and 8 to 11). Reading a body is this, line by
-- line: `line_judge`. Assumes nothing.
use Rattle.std.specs.Prelude.{◌≡◌, Bool, ℕ, ◌+◌, leb}
use Rattle.std.proofs.Math.Path.{refl, sym, ap}
use Rattle.std.proofs.Common.{◌∙◌, arith, add-zero}
use Rattle.std.proofs.Math.Bool.{true, false}
use mathlib.Core.List.{List, [], ◌++◌, append_assoc}
use Rattle.std.proofs.Math.ListN.{length, length-append}
use Rattle.terms.specs.Logic.{pick}
use Rattle.table_spec.specs.Frame.{Rules}
use Rattle.table_spec.specs.Values.{Form, Spot, after, last_or}
use Rattle.table_spec.specs.Reading.{Tokens, over, fault, head, value, line, Says, adds, refuses, says, Answer, refuse, push, took, judge}
use Rattle.table_spec.specs.ReadingLaws.{push_none, push_push}

-- the points of all values, the last point and the spot after them, and what is left to read; or the points of the values before a fault, its number and its place
pub data LineValues : Type 0 where
  whole : List ℕ → ℕ → Spot → Tokens → LineValues
  broken : List ℕ → ℕ → ℕ → LineValues

-- with points before
unfoldable pub given : List ℕ → LineValues → LineValues
given us (whole vs q w r) = whole (us ++ vs) q w r
given us (broken vs c a) = broken (us ++ vs) c a

-- a value at the place a, with i points given of N, the last of them p: 8, 9 and 10 as it says, then 11
unfoldable pub taken : ℕ → (ℕ → ℕ → Form → LineValues) → ℕ → ℕ → ℕ → Says → LineValues
taken N f a i p (refuses c) = broken [] c a
taken N f a i p (adds vs r) = pick (leb (i + length vs) N) (given vs (f (i + length vs) (last_or p vs) r)) (broken [] 11 a)

-- the values at the front of the tokens, with i points given of N, the last of them p, at the spot w
unfoldable pub line_says : ℕ → Tokens → ℕ → ℕ → Spot → LineValues
line_says N (over a) i p w = whole [] p w (over a)
line_says N (fault c a) i p w = broken [] c a
line_says N (head a h u r) i p w = whole [] p w (head a h u r)
line_says N (value a v r) i p w = taken N (λ j q f. line_says N r j q (after f)) a i p (says w p v)
line_says N (line r) i p w = whole [] p w (line r)

-- ---- points, one part after the other

pub given_none : (x : LineValues) → x ≡ given [] x
unfolding given
given_none (whole us q w r) = refl
given_none (broken us c a) = refl

pub given_given : (us vs : List ℕ) (x : LineValues) → given us (given vs x) ≡ given (us ++ vs) x
unfolding given
given_given us vs (whole xs q w r) = rw (append_assoc us vs xs) refl
given_given us vs (broken xs c a) = rw (append_assoc us vs xs) refl

-- ---- and what reading makes of it

module _ (R : Rules) where
  -- reading on after the values of a line, with i points given before them
  abbrev pub judged : ℕ → LineValues → Answer
  judged i (whole us q w r) = push us (judge R r (i + length us) q w)
  judged i (broken us c a) = refuse c a

  judged_given : (i : ℕ) (us : List ℕ) (x : LineValues) → judged i (given us x) ≡ push us (judged (i + length us) x)
  unfolding given push
  judged_given i us (whole vs q w r) =
      let z : i + length (us ++ vs) ≡ i + length us + length vs = omega (arith, length-append us vs) in rw z (sym (push_push us vs (judge R r (i + length us + length vs) q w)))
  judged_given i us (broken vs c a) = refl

  judged_whole : (i : ℕ) (x : Answer) (f : ℕ → Answer) → x ≡ f i → x ≡ push [] (f (i + 0))
  judged_whole i x f e = rw (add-zero i) (e ∙ push_none (f i))

  taken_judged : (f : ℕ → ℕ → Form → LineValues) (g : ℕ → ℕ → Form → Answer) (a i p : ℕ) (x : Says) → ((j q : ℕ) (r : Form) → g j q r ≡ judged j (f j q r))
      → took R g a i p x ≡ judged i (taken R.points f a i p x)
  unfolding took taken
  taken_judged f g a i p (refuses c) h = refl
  taken_judged f g a i p (adds vs r) h = by_test (leb (i + length vs) R.points)
    where
      by_test : (t : Bool) → pick t (push vs (g (i + length vs) (last_or p vs) r)) (refuse 11 a) ≡ judged i (pick t (given vs (f (i + length vs) (last_or p vs) r)) (broken [] 11 a))
      by_test true = ap (push vs) (h (i + length vs) (last_or p vs) r) ∙ sym (judged_given i vs (f (i + length vs) (last_or p vs) r))
      by_test false = refl

  -- to judge tokens is to judge the values that stand there, and what is left after them
  pub line_judge : (x : Tokens) (i p : ℕ) (w : Spot) → judge R x i p w ≡ judged i (line_says R.points x i p w)
  unfolding judge line_says
  line_judge (over a) i p w = judged_whole i _ (λ n. judge R (over a) n p w) refl
  line_judge (fault c a) i p w = refl
  line_judge (head a h u r) i p w = judged_whole i _ (λ n. judge R (head a h u r) n p w) refl
  line_judge (value a v r) i p w =
      taken_judged (λ j q f. line_says R.points r j q (after f)) (λ j q f. judge R r j q (after f)) a i p (says w p v) (λ j q f. line_judge r j q (after f))
  line_judge (line r) i p w = judged_whole i _ (λ n. judge R (line r) n p w) refl
