-- The place of a refusal lies in the body, or at its end. Assumes nothing.
use Rattle.std.specs.Prelude.{◌≡◌, refl, Bool, true, false, List, [], ◌∷◌, ℕ, suc, ◌+◌, ◌≤◌, ltb, leb, eqb, ℤ}
use Rattle.std.proofs.Common.{arith, zero-add}
use Rattle.std.proofs.Math.ListN.{length}
use Rattle.terms.specs.Logic.{pick, both, by_case}
use Rattle.table_spec.specs.Frame.{Rules, rules, abscissa, longest_body, longest_line, frame_legal}
use Rattle.table_spec.specs.Values.{Form, Own, Spot, first, after, last_or, index}
use Rattle.table_spec.specs.Reading.{Tokens, over, fault, head, value, line, Mode, fresh, inner, tokens, Says, adds, refuses, says, Answer, refuse, accept, push, bare, dif_before}
use Rattle.table_spec.specs.Reading.{took, checked, finish, judge, read_lines, line_length, LongLine, all_short, long_at, long_line, sooner, read, read_table}
use Rattle.line_law.specs.Every.{ByteIn, Everywhere, every}

-- ---- tokens

-- every token stands at a byte of a text that begins at lo and ends at hi
abbrev pub Placed : ℕ → ℕ → Tokens → Type 0
Placed lo hi (over a) = (lo ≤ a) × (a ≡ hi)
Placed lo hi (fault c a) = ByteIn lo hi a
Placed lo hi (head a h u r) = ByteIn lo hi a × Placed lo hi r
Placed lo hi (value a v r) = ByteIn lo hi a × Placed lo hi r
Placed lo hi (line r) = Placed lo hi r

placed : (a hi : ℕ) → a ≤ hi → Everywhere a hi (Placed a hi) (Placed a hi)
placed a hi l = record {
  s_over = (l, refl);
  s_fault = λ c b n x. x;
  s_head = λ b h u r x y. (x, y);
  i_fault = λ c b n x. x;
  i_value = λ b v r x y. (x, y);
  i_line = λ r x. x;
}

-- however many bytes are passed over, and in either mode
pub placed_from : (tabs : Bool) (s : List ℕ) (n a : ℕ) (m : Mode) → Placed a (a + length s) (tokens tabs s n a m)
placed_from tabs s n a fresh = let hi = a + length s in every a hi (Placed a hi) (Placed a hi) (placed a hi (omega arith)) tabs s n a fresh (omega arith) refl
placed_from tabs s n a (inner q) = let hi = a + length s in every a hi (Placed a hi) (Placed a hi) (placed a hi (omega arith)) tabs s n a (inner q) (omega arith) refl

pub tokens_placed : (tabs : Bool) (s : List ℕ) (a : ℕ) → Placed a (a + length s) (tokens tabs s 0 a fresh)
tokens_placed tabs s a = placed_from tabs s 0 a fresh

-- ---- what they say

-- a refusal's place is from lo to hi
abbrev pub AnswerIn : ℕ → ℕ → Answer → Type 0
AnswerIn lo hi (refuse c a) = (lo ≤ a) × (a ≤ hi)
AnswerIn lo hi (accept ys) = Unit {0}

module _ (lo hi : ℕ) where
  push_in : (us : List ℕ) (x : Answer) → AnswerIn lo hi x → AnswerIn lo hi (push us x)
  unfolding push
  push_in us (refuse c a) h = h
  push_in us (accept ys) h = tt

  picked : (t : Bool) (x y : Answer) → AnswerIn lo hi x → AnswerIn lo hi y → AnswerIn lo hi (pick t x y)
  picked true x y h k = h
  picked false x y h k = k

  module _ (R : Rules) where
    took_in : (f : ℕ → ℕ → Form → Answer) (a i p : ℕ) (x : Says) → ByteIn lo hi a → ((j q : ℕ) (g : Form) → AnswerIn lo hi (f j q g)) → AnswerIn lo hi (took R f a i p x)
    unfolding took
    took_in f a i p (refuses c) l h = (l.0, let k = l.1 in omega arith)
    took_in f a i p (adds vs r) l h =
        let x = f (i + length vs) (last_or p vs) r in
        picked (leb (i + length vs) R.points) (push vs x) (refuse 11 a) (push_in vs x (h (i + length vs) (last_or p vs) r)) (l.0, let k = l.1 in omega arith)

    pub judge_in : (x : Tokens) → Placed lo hi x → (i p : ℕ) (w : Spot) → AnswerIn lo hi (judge R x i p w)
    unfolding judge checked finish
    judge_in (over a) l i p w =
        let z : (lo ≤ a) × (a ≤ hi) = (l.0, let k = l.1 in omega arith) in
        picked (ltb i R.points) (refuse 12 a) _ z (picked (dif_before w) (refuse 13 a) (accept []) z tt)
    judge_in (fault c a) l i p w = (l.0, let k = l.1 in omega arith)
    judge_in (head a h u r) l i p w =
        let z : (lo ≤ a) × (a ≤ hi) = (l.0.0, let k = l.0.1 in omega arith) in
        picked (R.passing h u (index (dif_before w) i)) _ (refuse 6 a)
        (picked (bare r) (refuse 7 a) (judge R r i p (first (dif_before w))) z (judge_in r l.1 i p (first (dif_before w)))) z
    judge_in (value a v r) l i p w = took_in (λ j q f. judge R r j q (after f)) a i p (says w p v) l.0 (λ j q f. judge_in r l.1 j q (after f))
    judge_in (line r) l i p w = judge_in r l i p w

-- ---- the length of lines

-- a line that is too long begins at a byte of the text
abbrev pub LongIn : ℕ → ℕ → LongLine → Type 0
LongIn lo hi all_short = Unit {0}
LongIn lo hi (long_at a) = ByteIn lo hi a

pub long_in : (lo hi : ℕ) (begins : Bool) (a : ℕ) (s : List ℕ) → lo ≤ a → a + length s ≤ hi → LongIn lo hi (long_line begins a s)
unfolding long_line
long_in lo hi begins a [] l h = tt
long_in lo hi begins a (b ∷ s) l h =
    by_case (λ t. LongIn lo hi (pick t (long_at a) (long_line (eqb b 10) (suc a) s))) (both begins (ltb longest_line (line_length (b ∷ s))))
    (λ _. (l, omega arith)) (λ _. long_in lo hi (eqb b 10) (suc a) s (omega arith) (omega arith))

sooner_in : (lo hi : ℕ) (x : LongLine) (y : Answer) → LongIn lo hi x → AnswerIn lo hi y → AnswerIn lo hi (sooner x y)
unfolding sooner
sooner_in lo hi all_short y l h = h
sooner_in lo hi (long_at a) (refuse c b) l h = picked lo hi (ltb b a) (refuse c b) (refuse 16 a) h (l.0, let k = l.1 in omega arith)
sooner_in lo hi (long_at a) (accept ys) l h = (l.0, let k = l.1 in omega arith)

-- ---- whole bodies

-- a refusal's place is at most z
abbrev pub LowAnswer : ℕ → Answer → Type 0
LowAnswer z (refuse c a) = a ≤ z
LowAnswer z (accept ys) = Unit {0}

low : (lo z : ℕ) (x : Answer) → AnswerIn lo z x → LowAnswer z x
low lo z (refuse c a) h = h.1
low lo z (accept ys) h = tt

-- the place of a refusal of a body is at most its length
pub place_in : (R : Rules) (s : List ℕ) → AnswerIn 0 (length s) (read R s)
unfolding read read_lines
place_in R s =
    sooner_in 0 (length s) (long_line true 0 s) (read_lines R s) (long_in 0 (length s) true 0 s (omega arith) (omega arith))
    (judge_in 0 (length s) R (tokens R.tabs s 0 0 fresh) (rw (zero-add (length s)) at (tokens_placed R.tabs s 0)) 0 0 (after Own))

pub table_place : (f l : ℤ) (n : ℕ) (s : List ℕ) (space : ℕ) → LowAnswer (length s) (read_table f l n s space)
unfolding read_table
table_place f l n s space =
    let z : AnswerIn 0 (length s) (refuse 1 0) = (omega arith, omega arith) in
    low 0 (length s) (pick (both (frame_legal f l n) (leb (length s) longest_body)) (pick (ltb space n) (refuse 2 0) (read (rules (abscissa f) (abscissa l) n) s)) (refuse 1 0))
    (picked 0 (length s) (both (frame_legal f l n) (leb (length s) longest_body)) _ (refuse 1 0)
    (picked 0 (length s) (ltb space n) (refuse 2 0) (read (rules (abscissa f) (abscissa l) n) s) z (place_in (rules (abscissa f) (abscissa l) n) s)) z)
