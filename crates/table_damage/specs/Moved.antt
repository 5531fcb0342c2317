-- Tokens of one text at two places are alike: a text that is moved keeps its heads, values, faults and ends of lines. Assumes nothing.
use Rattle.std.specs.Prelude.{Bool, List, [], ◌∷◌, ℕ, zero, suc}
use Rattle.std.proofs.Math.Bool.{true, false}
use Rattle.alphabet_spec.specs.Digits.{Run, long, run, digits, some}
use Rattle.alphabet_spec.specs.Bytes.{Byte, digit, lead, sign, quest, blank, point, lf, cr, dollar, other, kind}
use Rattle.table_spec.specs.Values.{Value, own, room, value_of}
use Rattle.table_spec.specs.Reading.{Tokens, over, fault, head, value, line, HeadDigits, no_head, sized, Ending, ends, none, ending, thousandths}
use Rattle.table_spec.specs.Reading.{Mode, fresh, inner, Rest, ended, headed, valued, opening, inside, step, stop, tokens}

pub data Alike : Tokens → Tokens → Type 0 where
  overs : {a b : ℕ} → Alike (over a) (over b)
  faults : {c a b : ℕ} → Alike (fault c a) (fault c b)
  heads : {a b h u : ℕ} {r s : Tokens} → Alike r s → Alike (head a h u r) (head b h u s)
  values : {a b : ℕ} {x : Value} {r s : Tokens} → Alike r s → Alike (value a x r) (value b x s)
  lines : {r s : Tokens} → Alike r s → Alike (line r) (line s)

module _ (s : List ℕ) (a b : ℕ) (K L : Rest) (ih : (n : ℕ) (m : Mode) → Alike (K n m) (L n m)) where
  headed_alike : (m : Bool) (x : HeadDigits) → Alike (headed K a m x) (headed L b m x)
  headed_alike m no_head = faults
  headed_alike m (sized h u n) = heads (ih n (inner false))

  valued_alike : (f : ℕ → Value) (x : Run) → Alike (valued K a f x) (valued L b f x)
  valued_alike f long = faults
  valued_alike f (run v n) = values (ih n (inner false))

  fresh_alike : (x : Ending) → Alike (ended (λ n. K n fresh) a x) (ended (λ n. L n fresh) b x)
  fresh_alike none = faults
  fresh_alike (ends n) = ih n fresh

  inner_alike : (x : Ending) → Alike (ended (λ n. line (K n fresh)) a x) (ended (λ n. line (L n fresh)) b x)
  inner_alike none = faults
  inner_alike (ends n) = lines (ih n fresh)

  opens : (c : Byte) → Alike (opening K a s c) (opening L b s c)
  unfolding opening
  opens (digit d) = headed_alike false (thousandths s (digits s 6 d 0))
  opens (lead k d) = faults
  opens (sign m) = headed_alike m (thousandths s (some (digits s 7 0 0)))
  opens quest = faults
  opens blank = ih 0 fresh
  opens point = faults
  opens lf = fresh_alike (ending lf s)
  opens cr = fresh_alike (ending cr s)
  opens dollar = fresh_alike (ending dollar s)
  opens other = faults

  insides : (q : Bool) (c : Byte) → Alike (inside K a s q c) (inside L b s q c)
  unfolding inside
  insides true (digit d) = valued_alike (own false) (digits s 9 d 0)
  insides false (digit d) = faults
  insides q (lead k d) = valued_alike (value_of k) (digits s (room k d) d 0)
  insides q (sign m) = valued_alike (own m) (some (digits s 10 0 0))
  insides q quest = values (ih 0 (inner false))
  insides q blank = ih 0 (inner true)
  insides q point = faults
  insides q lf = inner_alike (ending lf s)
  insides q cr = inner_alike (ending cr s)
  insides q dollar = inner_alike (ending dollar s)
  insides q other = faults

  steps : (m : Mode) (c : Byte) → Alike (step K a s m c) (step L b s m c)
  unfolding step
  steps fresh c = opens c
  steps (inner q) c = insides q c

stopped : (a b : ℕ) (m : Mode) → Alike (stop a m) (stop b m)
unfolding stop
stopped a b fresh = overs
stopped a b (inner q) = lines overs

pub alike_tokens : (tabs : Bool) (s : List ℕ) (n a b : ℕ) (m : Mode) → Alike (tokens tabs s n a m) (tokens tabs s n b m)
unfolding tokens
alike_tokens tabs [] n a b m = stopped a b m
alike_tokens tabs (x ∷ s) zero a b m =
    (steps s a b (λ n. tokens tabs s n (suc a)) (λ n. tokens tabs s n (suc b)) (λ n y. alike_tokens tabs s n (suc a) (suc b) y) m (kind tabs x))
alike_tokens tabs (x ∷ s) (suc n) a b m = alike_tokens tabs s n (suc a) (suc b) m
