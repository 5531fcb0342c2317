-- The tokens of one line by itself: nothing, a fault, or a head with its values and then the end. Assumes nothing.
use Rattle.std.specs.Prelude.{◌≡◌, refl, Bool, List, [], ◌∷◌, ℕ, zero, suc, ◌+◌, eqb, length}
use Rattle.std.proofs.Common.{sym, ap, ◌∙◌, arith, eq-eqb}
use Rattle.std.proofs.Math.Bool.{true, false}
use Rattle.terms.specs.Logic.{pick, by_case, no_way}
use Rattle.alphabet_spec.specs.Digits.{Run, long, run, digits, some}
use Rattle.alphabet_spec.specs.Bytes.{Byte, digit, lead, sign, quest, blank, point, lf, cr, dollar, other, kind}
use Rattle.alphabet_spec.proofs.KindLaws.{Back, kind_back}
use Rattle.table_spec.specs.Values.{Value, own, room, value_of}
use Rattle.table_spec.specs.Reading.{Tokens, over, fault, head, value, line, HeadDigits, no_head, sized, comment, Ending, ends, none, ending, thousandths, Mode, fresh, inner}
use Rattle.table_spec.specs.Reading.{Rest, ended, headed, valued, opening, inside, step, stop, tokens}
use Rattle.plain_law.specs.Along.{Inside}

-- z: the place of the end
abbrev pub Alone : ℕ → Tokens → Type 0
Alone z (over a) = a ≡ z
Alone z (fault c a) = Unit {0}
Alone z (head a h u r) = Inside z r
Alone z (value a v r) = ⊥
Alone z (line r) = ⊥

abbrev Good : ℕ → Mode → Tokens → Type 0
Good z fresh x = Alone z x
Good z (inner q) x = Inside z x

-- no LF stands in it but at its end
abbrev pub Single : List ℕ → Type 0
Single [] = Unit {0}
Single (b ∷ []) = Unit {0}
Single (b ∷ c ∷ t) = (eqb b 10 ≡ false) × Single (c ∷ t)

pub single_tail : (b : ℕ) (s : List ℕ) → Single (b ∷ s) → Single s
single_tail b [] h = tt
single_tail b (c ∷ t) h = h.1

-- ---- a line's end is the end of its text

abbrev pub EndAll : List ℕ → Ending → Type 0
EndAll s none = Unit {0}
EndAll s (ends n) = n ≡ length s

pub lf_last : (b : ℕ) (s : List ℕ) → Single (b ∷ s) → eqb b 10 ≡ true → 0 ≡ length s
lf_last b [] h e = refl
lf_last b (c ∷ t) h e = no_way (sym h.0 ∙ e)

comment_all : (s : List ℕ) → Single s → comment s ≡ length s
unfolding comment
comment_all [] h = refl
comment_all (b ∷ []) h = by_case (λ t. ◌≡◌ {A = ℕ} (pick t 1 1) 1) (eqb b 10) (λ _. refl) (λ _. refl)
comment_all (b ∷ c ∷ t) h = rw h.0 (ap suc (comment_all (c ∷ t) h.1))

pub cr_all : (s : List ℕ) → Single s → EndAll s (ending cr s)
unfolding ending
cr_all [] h = tt
cr_all (x ∷ t) h = by_case (λ y. eqb x 10 ≡ y → EndAll (x ∷ t) (pick y (ends 1) none)) (eqb x 10) (λ _ e. ap suc (lf_last x t h e)) (λ _ e. tt) refl

pub dollar_all : (s : List ℕ) → Single s → EndAll s (ending dollar s)
unfolding ending
dollar_all [] h = tt
dollar_all (x ∷ t) h = by_case (λ y. EndAll (x ∷ t) (pick y (ends (suc (comment t))) none)) (eqb x 36) (λ _. ap suc (comment_all t (single_tail x t h))) (λ _. tt)

module _ (b : ℕ) (s : List ℕ) (a z : ℕ) (K : Rest) (h : Single (b ∷ s)) (all : K (length s) fresh ≡ over z) (ih : (n : ℕ) (m : Mode) → Good z m (K n m)) where
  heads : (m : Bool) (x : HeadDigits) → Alone z (headed K a m x)
  heads m no_head = tt
  heads m (sized g u n) = ih n (inner false)

  values : (f : ℕ → Value) (x : Run) → Inside z (valued K a f x)
  values f long = tt
  values f (run v n) = ih n (inner false)

  fresh_end : (e : Ending) → Alone z (ended (λ n. K n fresh) a e)
  fresh_end none = tt
  fresh_end (ends n) = ih n fresh

  inner_end : (e : Ending) → EndAll s e → Inside z (ended (λ n. line (K n fresh)) a e)
  inner_end none l = tt
  inner_end (ends n) l = rw l all

  opens : (c : Byte) → Alone z (opening K a s c)
  unfolding opening
  opens (digit d) = heads false (thousandths s (digits s 6 d 0))
  opens (lead k d) = tt
  opens (sign m) = heads m (thousandths s (some (digits s 7 0 0)))
  opens quest = tt
  opens blank = ih 0 fresh
  opens point = tt
  opens lf = fresh_end (ending lf s)
  opens cr = fresh_end (ending cr s)
  opens dollar = fresh_end (ending dollar s)
  opens other = tt

  lf_all : b ≡ 10 → EndAll s (ending lf s)
  unfolding ending
  lf_all e = lf_last b s h (eq-eqb b 10 e)

  insides : (tabs q : Bool) (c : Byte) → Back tabs b c → Inside z (inside K a s q c)
  unfolding inside
  insides tabs true (digit d) k = values (own false) (digits s 9 d 0)
  insides tabs false (digit d) k = tt
  insides tabs q (lead x d) k = values (value_of x) (digits s (room x d) d 0)
  insides tabs q (sign m) k = values (own m) (some (digits s 10 0 0))
  insides tabs q quest k = ih 0 (inner false)
  insides tabs q blank k = ih 0 (inner true)
  insides tabs q point k = tt
  insides tabs q lf k = inner_end (ending lf s) (lf_all k)
  insides tabs q cr k = inner_end (ending cr s) (cr_all s (single_tail b s h))
  insides tabs q dollar k = inner_end (ending dollar s) (dollar_all s (single_tail b s h))
  insides tabs q other k = tt

  steps : (tabs : Bool) (m : Mode) (c : Byte) → Back tabs b c → Good z m (step K a s m c)
  unfolding step
  steps tabs fresh c k = opens c
  steps tabs (inner q) c k = insides tabs q c k

stopped : (a : ℕ) (m : Mode) → Good a m (stop a m)
unfolding stop
stopped a fresh = refl
stopped a (inner q) = refl

pub all_passed : (tabs : Bool) (s : List ℕ) (a z : ℕ) → a + length s ≡ z → tokens tabs s (length s) a fresh ≡ over z
unfolding tokens stop
all_passed tabs [] a z e = ap over (omega arith)
all_passed tabs (b ∷ s) a z e = all_passed tabs s (suc a) z (omega arith)

one_line : (tabs : Bool) (s : List ℕ) (n a z : ℕ) (m : Mode) → Single s → a + length s ≡ z → Good z m (tokens tabs s n a m)
unfolding tokens
one_line tabs [] n a z m h e = let g : z ≡ a = omega arith in rw g (stopped a m)
one_line tabs (b ∷ s) zero a z m h e =
    let K : Rest = λ n x. tokens tabs s n (suc a) x in
    let g : suc a + length s ≡ z = omega arith in
    steps b s a z K h (all_passed tabs s (suc a) z g) (λ n x. one_line tabs s n (suc a) z x (single_tail b s h) g) tabs m (kind tabs b) (kind_back tabs b)
one_line tabs (b ∷ s) (suc n) a z m h e = one_line tabs s n (suc a) z m (single_tail b s h) (omega arith)

-- the tokens of a line
pub line_alone : (tabs : Bool) (s : List ℕ) (a : ℕ) → Single s → Alone (a + length s) (tokens tabs s 0 a fresh)
line_alone tabs s a h = one_line tabs s 0 a (a + length s) fresh h refl
