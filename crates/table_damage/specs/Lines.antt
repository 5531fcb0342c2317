-- Lines before a text, and what they do to the state of reading; a check value that is right after one ordinate is wrong after every other. Assumes nothing.
use Rattle.std.specs.Prelude.{◌≡◌, length}
use Rattle.std.proofs.Math.Path.{refl}
use Rattle.std.proofs.Common.{◌∙◌}
use mathlib.Core.List.{List, [], ◌∷◌, ◌++◌}
use Prim.Native.Nat.{ℕ, suc, ◌+◌}
use Rattle.table_spec.specs.Frame.{Rules}
use Rattle.table_spec.specs.Values.{Spot}
use Rattle.table_spec.specs.Reading.{Tokens, over, fault, head, value, line, Answer, refuse, accept, push}
use Rattle.table_spec.specs.ReadingLaws.{no_accept, push_none}
use Rattle.line_law.specs.Linewise.{NoLf}
use Rattle.line_law.specs.WholeLine.{Done, refused, went, add, resume, reading, line_does, push_add}
use Rattle.line_law.proofs.WholeLine.{line_then}

-- ---- lines

-- lines, each with its LF, and then a text
abbrev pub onto : List (List ℕ) → List ℕ → List ℕ
onto [] s = s
onto (w ∷ ws) s = w ++ 10 ∷ onto ws s

-- none of them has an LF of its own
abbrev pub Whole : List (List ℕ) → Type 0
Whole [] = Unit {0}
Whole (w ∷ ws) = NoLf w × Whole ws

-- the place after them
abbrev pub place_after : List (List ℕ) → ℕ → ℕ
place_after [] a = a
place_after (w ∷ ws) a = place_after ws (a + suc (length w))

abbrev pub followed : Done → (ℕ → ℕ → Spot → Done) → Done
followed (refused c a) k = refused c a
followed (went vs i p v) k = add vs (k i p v)

module _ (R : Rules) where
  -- what lines do that begin at the place a: the first fault; or the points that they add, how many there are then, the last of them, and the spot
  unfoldable pub lines_do : List (List ℕ) → ℕ → ℕ → ℕ → Spot → Done
  lines_do [] a i p v = went [] i p v
  lines_do (w ∷ ws) a i p v = followed (line_does R (w ++ 10 ∷ []) a i p v) (lines_do ws (a + suc (length w)))

  resumed : (x : Done) (f : ℕ → ℕ → Spot → Done) (k l : ℕ → ℕ → Spot → Answer) → ((i p : ℕ) (v : Spot) → k i p v ≡ resume (f i p v) l) → resume x k ≡ resume (followed x f) l
  resumed (refused c a) f k l h = refl
  resumed (went vs i p v) f k l h = rw (h i p v) (push_add vs (f i p v) l)

  pub lines_then : (ws : List (List ℕ)) (s : List ℕ) (a i p : ℕ) (v : Spot) → Whole ws → reading R (onto ws s) a i p v ≡ resume (lines_do ws a i p v) (reading R s (place_after ws a))
  unfolding lines_do
  lines_then [] s a i p v h = push_none (reading R s a i p v)
  lines_then (w ∷ ws) s a i p v h =
      line_then R w (onto ws s) a i p v h.0
      ∙ resumed (line_does R (w ++ 10 ∷ []) a i p v) (lines_do ws (a + suc (length w))) (reading R (onto ws s) (a + suc (length w)))
      (reading R s (place_after ws (a + suc (length w)))) (λ j q u. lines_then ws s (a + suc (length w)) j q u h.1)

pub push_accept : (us : List ℕ) (x : Answer) (ys : List ℕ) → push us x ≡ accept ys → (zs : List ℕ) × (x ≡ accept zs)
unfolding push
push_accept us (refuse c a) ys e = no_accept e
push_accept us (accept zs) ys e = (zs, refl)

-- ---- the first value of the next line that is neither blank nor comment

-- where a thing stands in a text, or that there is none
pub data Stands : Type 0 where
  at : ℕ → Stands
  nowhere : Stands

-- a value that stands before all else
abbrev pub value_at : Tokens → Stands
value_at (over a) = nowhere
value_at (fault c a) = nowhere
value_at (head a h u r) = nowhere
value_at (value a x r) = at a
value_at (line r) = nowhere

-- the value after the first head: lines that are blank or comment have no tokens
abbrev pub first_value : Tokens → Stands
first_value (over a) = nowhere
first_value (fault c a) = nowhere
first_value (head a h u r) = value_at r
first_value (value a x r) = nowhere
first_value (line r) = nowhere

-- refused with 10 at that value
abbrev pub Caught : Stands → Answer → Type 0
Caught x y = (c : ℕ) × (x ≡ at c) × (y ≡ refuse 10 c)
