-- What holds of the tokens of every text, by one induction on its bytes: S of those before a line's head, I of those after it. Assumes nothing.
use Rattle.std.specs.Prelude.{◌≡◌, Bool, length}
use Rattle.std.proofs.Math.Bool.{true, false}
use mathlib.Core.List.{List, [], ◌∷◌}
use Prim.Native.Nat.{ℕ, zero, suc, ◌+◌, ◌≤◌, ◌<◌}
use native.Mathlib.Omega.{arith}
use Rattle.std.proofs.Common.{lit≤}
use Rattle.alphabet_spec.specs.Digits.{Run, long, run, digits, some}
use Rattle.alphabet_spec.specs.Bytes.{Byte, digit, lead, sign, quest, blank, point, lf, cr, dollar, other, kind}
use Rattle.table_spec.specs.Values.{Value, own, gap, room, value_of, headed_at}
use Rattle.table_spec.specs.Reading.{Tokens, over, fault, head, HeadDigits, no_head, sized, value, line, Ending, ends, none, ending, Mode, fresh, inner, Rest, ended, headed}
use Rattle.table_spec.specs.Reading.{valued, thousandths, opening, inside, step, stop, tokens}

-- the place of a byte: from lo on, before hi
abbrev pub ByteIn : ℕ → ℕ → ℕ → Type 0
ByteIn lo hi a = (lo ≤ a) × (a < hi)

-- what S and I need to hold of the tokens of a text whose bytes stand from lo to hi. A fault of spelling is 3, 4 or 5
pub record Everywhere (lo hi : ℕ) (S I : Tokens → Type 0) : Type 0 where
  pub s_over : S (over hi)
  pub s_fault : (c a : ℕ) → c ≤ 5 → ByteIn lo hi a → S (fault c a)
  pub s_head : (a h u : ℕ) (r : Tokens) → ByteIn lo hi a → I r → S (head a h u r)
  pub i_fault : (c a : ℕ) → c ≤ 5 → ByteIn lo hi a → I (fault c a)
  pub i_value : (a : ℕ) (v : Value) (r : Tokens) → ByteIn lo hi a → I r → I (value a v r)
  pub i_line : (r : Tokens) → S r → I (line r)

module _ (lo hi : ℕ) (S I : Tokens → Type 0) (e : Everywhere lo hi S I) where
  abbrev pub Holds : Mode → Tokens → Type 0
  Holds fresh x = S x
  Holds (inner q) x = I x

  module _ (s : List ℕ) (a : ℕ) (l : ByteIn lo hi a) (K : Rest) (ih : (n : ℕ) (m : Mode) → Holds m (K n m)) where
    heads : (m : Bool) (x : HeadDigits) → S (headed K a m x)
    heads m no_head = e.s_fault 4 a (lit≤ tt) l
    heads m (sized h u n) = e.s_head a (headed_at m h) u (K n (inner false)) l (ih n (inner false))

    values : (f : ℕ → Value) (x : Run) → I (valued K a f x)
    values f long = e.i_fault 5 a (lit≤ tt) l
    values f (run v n) = e.i_value a (f v) (K n (inner false)) l (ih n (inner false))

    fresh_end : (x : Ending) → S (ended (λ n. K n fresh) a x)
    fresh_end none = e.s_fault 3 a (lit≤ tt) l
    fresh_end (ends n) = ih n fresh

    inner_end : (x : Ending) → I (ended (λ n. line (K n fresh)) a x)
    inner_end none = e.i_fault 3 a (lit≤ tt) l
    inner_end (ends n) = e.i_line (K n fresh) (ih n fresh)

    opens : (c : Byte) → S (opening K a s c)
    unfolding opening
    opens (digit d) = heads false (thousandths s (digits s 6 d 0))
    opens (lead k d) = e.s_fault 4 a (lit≤ tt) l
    opens (sign m) = heads m (thousandths s (some (digits s 7 0 0)))
    opens quest = e.s_fault 4 a (lit≤ tt) l
    opens blank = ih 0 fresh
    opens point = e.s_fault 3 a (lit≤ tt) l
    opens lf = fresh_end (ending lf s)
    opens cr = fresh_end (ending cr s)
    opens dollar = fresh_end (ending dollar s)
    opens other = e.s_fault 3 a (lit≤ tt) l

    insides : (q : Bool) (c : Byte) → I (inside K a s q c)
    unfolding inside
    insides true (digit d) = values (own false) (digits s 9 d 0)
    insides false (digit d) = e.i_fault 5 a (lit≤ tt) l
    insides q (lead k d) = values (value_of k) (digits s (room k d) d 0)
    insides q (sign m) = values (own m) (some (digits s 10 0 0))
    insides q quest = e.i_value a gap (K 0 (inner false)) l (ih 0 (inner false))
    insides q blank = ih 0 (inner true)
    insides q point = e.i_fault 3 a (lit≤ tt) l
    insides q lf = inner_end (ending lf s)
    insides q cr = inner_end (ending cr s)
    insides q dollar = inner_end (ending dollar s)
    insides q other = e.i_fault 3 a (lit≤ tt) l

    steps : (m : Mode) (c : Byte) → Holds m (step K a s m c)
    unfolding step
    steps fresh c = opens c
    steps (inner q) c = insides q c

  stopped : (m : Mode) → Holds m (stop hi m)
  unfolding stop
  stopped fresh = e.s_over
  stopped (inner q) = e.i_line (over hi) e.s_over

  pub every : (tabs : Bool) (s : List ℕ) (n a : ℕ) (m : Mode) → lo ≤ a → a + length s ≡ hi → Holds m (tokens tabs s n a m)
  unfolding tokens
  every tabs [] n a m l h = let z : a ≡ hi = omega arith in rw z (stopped m)
  every tabs (b ∷ s) zero a m l h =
      steps s a (l, omega arith) (λ n. tokens tabs s n (suc a)) (λ n x. every tabs s n (suc a) x (omega arith) (omega arith)) m (kind tabs b)
  every tabs (b ∷ s) (suc n) a m l h = every tabs s n (suc a) m (omega arith) (omega arith)
