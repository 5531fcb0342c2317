-- Pieces of a text in the lent bytes, one after the other. Assumes nothing.
use Rattle.std.specs.Prelude.{◌≡◌, refl, List, [], ◌∷◌, ◌++◌, map, ℕ, suc, ◌+◌, ◌≤◌, ◌<◌, ℤ, length, set}
use Rattle.std.proofs.Common.{sym, ap, ◌∙◌, arith, add-zero, add-suc, suc-add, length-append}
use Rattle.std.proofs.lemmas.List.Edits.{sets}
use Rattle.std.proofs.Math.Seq.{length-sets, set_out}
use Rattle.std.proofs.lemmas.List.{set_comm}
use Rattle.frame.specs.declared.Frame.{Frame}
use Rattle.table_spec.specs.Frame.{ordinate_of, nearest}
use Rattle.table_spec.specs.Numerals.{top, low, head_text}

-- the ordinates of the lent slice
abbrev pub ordinates : List ℤ → List ℕ
ordinates ys = map ordinate_of ys

-- the piece g is stored from a place on, and r is the place after it
pub record Put (o : List ℕ) (at : ℕ) (o' : List ℕ) (r : ℕ) (g : List ℕ) : Type 0 where
  pub next : r ≡ at + length g
  pub stored : o' ≡ sets o at g

-- storing s from a place on gives x, and ends at n
pub record Ahead (x : List ℕ) (n : ℕ) (o : List ℕ) (at : ℕ) (s : List ℕ) : Type 0 where
  pub whole : sets o at s ≡ x
  pub ends : at + length s ≡ n

-- a number whose first digit is written as a base plus the digit
unfoldable pub number : ℕ → ℕ → List ℕ
number base v = (base + top 9 v) ∷ low 9 v []

-- the head of the point i in a frame
unfoldable pub head_of : Frame → ℕ → List ℕ
head_of fr i = head_text (nearest fr.first fr.last fr.points i)

pub sets_append : (l : List ℕ) (i : ℕ) (a b : List ℕ) → sets l i (a ++ b) ≡ sets (sets l i a) (i + length a) b
sets_append l i [] b = rw (add-zero i) refl
sets_append l i (v ∷ a) b = sets_append (set l i v) (suc i) a b ∙ rw (add-suc i (length a), suc-add i (length a)) refl

pub put_then : {o o' o'' : List ℕ} {at r r' : ℕ} {g h : List ℕ} → Put o at o' r g → Put o' r o'' r' h → Put o at o'' r' (g ++ h)
put_then {o = o} {at = at} {g = g} {h = h} a b =
    record { next = omega (arith, a.next, b.next, length-append g h); stored = b.stored ∙ rw (a.stored, a.next) (sym (sets_append o at g h)) }

pub ahead_of : {x o o' : List ℕ} {n at r : ℕ} {g : List ℕ} (s : List ℕ) → Put o at o' r g → Ahead x n o at (g ++ s) → Ahead x n o' r s
ahead_of {o = o} {at = at} {g = g} s a e =
    record { whole = rw (a.stored, a.next) (sym (sets_append o at g s) ∙ e.whole); ends = omega (arith, a.next, e.ends, length-append g s) }

pub put_length : {o o' : List ℕ} {at r : ℕ} {g : List ℕ} → Put o at o' r g → length o' ≡ length o
put_length {o = o} {at = at} {g = g} a = ap length a.stored ∙ length-sets o at g

pub put_as : {o o' : List ℕ} {at r : ℕ} {g h : List ℕ} → g ≡ h → Put o at o' r h → Put o at o' r g
put_as e a = rw e a

pub put_none : (o : List ℕ) (at : ℕ) → Put o at o at []
put_none o at = record { next = omega arith; stored = refl }

pub put_byte : {o o' : List ℕ} (at b : ℕ) → o' ≡ set o at b → Put o at o' (at + 1) (b ∷ [])
put_byte at b e = record { next = refl; stored = e }

-- past the end nothing is stored
pub sets_past : (l : List ℕ) (at : ℕ) (vs : List ℕ) → length l ≤ at → sets l at vs ≡ l
sets_past l at [] h = refl
sets_past l at (v ∷ vs) h = let e = set_out l at v h in rw e (sets_past l (suc at) vs (omega arith))

-- a byte may be stored after what follows it
pub set_sets : (l : List ℕ) (i j b : ℕ) (vs : List ℕ) → j < i → set (sets l i vs) j b ≡ sets (set l j b) i vs
set_sets l i j b [] h = refl
set_sets l i j b (v ∷ vs) h = set_sets (set l i v) (suc i) j b vs (omega arith) ∙ ap (λ (x : List ℕ). sets x (suc i) vs) (set_comm l i j v b (λ e. omega arith))
