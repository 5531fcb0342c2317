-- Reading goes line by line: the tokens of a line, and then those of the lines after it. Assumes nothing.
use Rattle.std.specs.Prelude.{◌≡◌, Bool, ℕ, zero, suc, ◌+◌, ◌≤◌, eqb, length}
use Rattle.std.proofs.Math.Path.{refl, ap}
use Rattle.std.proofs.Common.{sym, ◌∙◌, arith, add-one, le_of_suc-le-suc, not-suc-le-zero, eq-eqb}
use Rattle.std.proofs.Math.Bool.{true, false}
use mathlib.Core.List.{List, [], ◌∷◌, ◌++◌}
use Rattle.terms.specs.Logic.{pick, by_case, no_way}
use Rattle.alphabet_spec.specs.Digits.{Run, long, run, digits, some}
use Rattle.alphabet_spec.specs.Bytes.{Byte, digit, lead, sign, quest, blank, point, lf, cr, dollar, other, kind}
use Rattle.alphabet_spec.proofs.KindLaws.{Back, kind_back}
use Rattle.table_spec.specs.Values.{Value, own, gap, room, value_of, headed_at}
use Rattle.table_spec.specs.Reading.{Tokens, over, fault, head, value, line, HeadDigits, no_head, sized, comment, Ending, ends, none, ending}
use Rattle.table_spec.specs.Reading.{thousandths, Mode, fresh, inner, Rest, ended, headed, valued, opening, inside, step, stop, tokens}
use Rattle.line_law.specs.Ahead.{RunIn, HeadIn, some_in, digits_same, digits_in, head_same, head_in}

-- tokens, and then others where the first are over
abbrev pub and_then : Tokens → Tokens → Tokens
and_then (over a) y = y
and_then (fault c a) y = fault c a
and_then (head a h u r) y = head a h u (and_then r y)
and_then (value a v r) y = value a v (and_then r y)
and_then (line r) y = line (and_then r y)

-- no LF stands in it
abbrev pub NoLf : List ℕ → Type 0
NoLf [] = Unit {0}
NoLf (b ∷ w) = (eqb b 10 ≡ false) × NoLf w

-- ---- what is looked at ahead lies on the line

comment_line : (w s : List ℕ) → NoLf w → comment (w ++ 10 ∷ s) ≡ suc (length w)
unfolding comment
comment_line [] s h = refl
comment_line (b ∷ w) s h = rw (h.0, comment_line w s h.1) refl

-- ---- a line's end, after its first byte
abbrev EndIn : List ℕ → Ending → Type 0
EndIn w none = Unit {0}
EndIn w (ends n) = n ≡ suc (length w)

cr_line : (w s : List ℕ) → NoLf w → (ending cr (w ++ 10 ∷ s) ≡ ending cr (w ++ 10 ∷ [])) × EndIn w (ending cr (w ++ 10 ∷ s))
unfolding ending
cr_line [] s h = (refl, refl)
cr_line (b ∷ w) s h = rw h.0 (refl, tt)

dollar_line : (w s : List ℕ) → NoLf w → (ending dollar (w ++ 10 ∷ s) ≡ ending dollar (w ++ 10 ∷ [])) × EndIn w (ending dollar (w ++ 10 ∷ s))
unfolding ending
dollar_line [] s h = (refl, tt)
dollar_line (b ∷ w) s h =
    rw (comment_line w s h.1, comment_line w [] h.1)
    (refl, by_case (λ t. EndIn (b ∷ w) (pick t (ends (suc (suc (length w)))) none)) (eqb b 36) (λ _. refl) (λ _. tt))

-- ---- how many bytes may be passed over: some of the line, or the line and its LF
pub data Fits : ℕ → List ℕ → Mode → Type 0 where
  within_line : {n : ℕ} {w : List ℕ} {m : Mode} → n ≤ length w → Fits n w m
  whole_line : {w : List ℕ} → Fits (suc (length w)) w fresh

module _ (b : ℕ) (w s : List ℕ) (a : ℕ) (y : Tokens) (K1 K2 : Rest) (h : NoLf w) (ih : (n : ℕ) (m : Mode) → Fits n w m → K1 n m ≡ and_then (K2 n m) y) where
  heads : (m : Bool) (x : HeadDigits) → HeadIn w 0 x → headed K1 a m x ≡ and_then (headed K2 a m x) y
  heads m no_head l = refl
  heads m (sized g u n) l = ap (head a (headed_at m g) u) (ih n (inner false) (within_line (omega arith)))

  values : (f : ℕ → Value) (x : Run) → RunIn w 0 x → valued K1 a f x ≡ and_then (valued K2 a f x) y
  values f long l = refl
  values f (run v n) l = ap (value a (f v)) (ih n (inner false) (within_line (omega arith)))

  fresh_end : (e : Ending) → EndIn w e → ended (λ n. K1 n fresh) a e ≡ and_then (ended (λ n. K2 n fresh) a e) y
  fresh_end none l = refl
  fresh_end (ends n) l = rw l (ih (suc (length w)) fresh whole_line)

  inner_end : (e : Ending) → EndIn w e → ended (λ n. line (K1 n fresh)) a e ≡ and_then (ended (λ n. line (K2 n fresh)) a e) y
  inner_end none l = refl
  inner_end (ends n) l = ap line (rw l (ih (suc (length w)) fresh whole_line))

  no_lf : {A : Type 0} → eqb b 10 ≡ false → b ≡ 10 → A
  no_lf e g = no_way (sym e ∙ eq-eqb b 10 g)

  opens : (tabs : Bool) (c : Byte) → eqb b 10 ≡ false → Back tabs b c → opening K1 a (w ++ 10 ∷ s) c ≡ and_then (opening K2 a (w ++ 10 ∷ []) c) y
  unfolding opening
  opens tabs (digit d) e k =
      let x = digits (w ++ 10 ∷ []) 6 d 0 in let l = digits_in 10 refl w [] 6 d 0 in
      rw (digits_same 10 refl w s [] 6 d 0, head_same 10 refl refl w s [] x l) (heads false (thousandths (w ++ 10 ∷ []) x) (head_in 10 refl refl w [] x l))
  opens tabs (lead q d) e k = refl
  opens tabs (sign m) e k =
      let x = some (digits (w ++ 10 ∷ []) 7 0 0) in let l = some_in w 0 (digits (w ++ 10 ∷ []) 7 0 0) (digits_in 10 refl w [] 7 0 0) in
      rw (digits_same 10 refl w s [] 7 0 0, head_same 10 refl refl w s [] x l) (heads m (thousandths (w ++ 10 ∷ []) x) (head_in 10 refl refl w [] x l))
  opens tabs quest e k = refl
  opens tabs blank e k = ih 0 fresh (within_line (omega arith))
  opens tabs point e k = refl
  opens tabs lf e k = no_lf e k
  opens tabs cr e k = let z = cr_line w s h in rw (← z.0) (fresh_end (ending cr (w ++ 10 ∷ s)) z.1)
  opens tabs dollar e k = let z = dollar_line w s h in rw (← z.0) (fresh_end (ending dollar (w ++ 10 ∷ s)) z.1)
  opens tabs other e k = refl

  insides : (tabs q : Bool) (c : Byte) → eqb b 10 ≡ false → Back tabs b c → inside K1 a (w ++ 10 ∷ s) q c ≡ and_then (inside K2 a (w ++ 10 ∷ []) q c) y
  unfolding inside
  insides tabs true (digit d) e k = rw (digits_same 10 refl w s [] 9 d 0) (values (own false) (digits (w ++ 10 ∷ []) 9 d 0) (digits_in 10 refl w [] 9 d 0))
  insides tabs false (digit d) e k = refl
  insides tabs q (lead x d) e k = rw (digits_same 10 refl w s [] (room x d) d 0) (values (value_of x) (digits (w ++ 10 ∷ []) (room x d) d 0) (digits_in 10 refl w [] (room x d) d 0))
  insides tabs q (sign m) e k =
      let x = digits (w ++ 10 ∷ []) 10 0 0 in rw (digits_same 10 refl w s [] 10 0 0) (values (own m) (some x) (some_in w 0 x (digits_in 10 refl w [] 10 0 0)))
  insides tabs q quest e k = ap (value a gap) (ih 0 (inner false) (within_line (omega arith)))
  insides tabs q blank e k = ih 0 (inner true) (within_line (omega arith))
  insides tabs q point e k = refl
  insides tabs q lf e k = no_lf e k
  insides tabs q cr e k = let z = cr_line w s h in rw (← z.0) (inner_end (ending cr (w ++ 10 ∷ s)) z.1)
  insides tabs q dollar e k = let z = dollar_line w s h in rw (← z.0) (inner_end (ending dollar (w ++ 10 ∷ s)) z.1)
  insides tabs q other e k = refl

  steps : (tabs : Bool) (m : Mode) (c : Byte) → eqb b 10 ≡ false → Back tabs b c → step K1 a (w ++ 10 ∷ s) m c ≡ and_then (step K2 a (w ++ 10 ∷ []) m c) y
  unfolding step
  steps tabs fresh c e k = opens tabs c e k
  steps tabs (inner q) c e k = insides tabs q c e k

last_byte : (tabs : Bool) (s : List ℕ) (a : ℕ) {n : ℕ} {m : Mode} → Fits (suc n) [] m → tokens tabs s n (suc a) m ≡ and_then (tokens tabs [] n (suc a) m) (tokens tabs s 0 (a + 1) fresh)
unfolding tokens stop
last_byte tabs s a (within_line l) = absurd (not-suc-le-zero l)
last_byte tabs s a whole_line = rw (add-one a) refl

less : {n b : ℕ} {w : List ℕ} {m : Mode} → Fits (suc n) (b ∷ w) m → Fits n w m
less (within_line l) = within_line (le_of_suc-le-suc l)
less whole_line = whole_line

further : (a n : ℕ) → suc a + n ≡ a + suc n
further a n = omega arith

-- the tokens of a line, and then those of the lines after it
pub linewise : (tabs : Bool) (w s : List ℕ) (n a : ℕ) (m : Mode) → NoLf w → Fits n w m
    → tokens tabs (w ++ 10 ∷ s) n a m ≡ and_then (tokens tabs (w ++ 10 ∷ []) n a m) (tokens tabs s 0 (a + suc (length w)) fresh)
unfolding tokens
linewise tabs [] s zero a fresh h f = unfold step in unfold opening in unfold ending in unfold kind in unfold stop in rw (add-one a) refl
linewise tabs [] s zero a (inner q) h f = unfold step in unfold inside in unfold ending in unfold kind in unfold stop in rw (add-one a) refl
linewise tabs [] s (suc n) a m h f = last_byte tabs s a f
linewise tabs (b ∷ w) s zero a m h f =
    let y = tokens tabs s 0 (suc a + suc (length w)) fresh in
    let K1 : Rest = λ n x. tokens tabs (w ++ 10 ∷ s) n (suc a) x in
    let K2 : Rest = λ n x. tokens tabs (w ++ 10 ∷ []) n (suc a) x in
    let ih : (n : ℕ) (x : Mode) → Fits n w x → K1 n x ≡ and_then (K2 n x) y = λ n x g. linewise tabs w s n (suc a) x h.1 g in
    rw (← further a (suc (length w))) (steps b w s a y K1 K2 h.1 ih tabs m (kind tabs b) h.0 (kind_back tabs b))
linewise tabs (b ∷ w) s (suc n) a m h f = rw (← further a (suc (length w))) (linewise tabs w s n (suc a) m h.1 (less f))
