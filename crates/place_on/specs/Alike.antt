-- Two texts that begin alike have the same tokens as far as one that the last common byte makes longer, or one behind the common bytes. Assumes nothing.
use Rattle.std.specs.Prelude.{◌≡◌, refl, Bool, eqb}
use Rattle.std.proofs.Common.{sym, ap, ◌∙◌, arith, le_of_suc-le-suc, not-suc-le-zero, add-zero, zero-add, add-suc, suc-add}
use Rattle.std.proofs.Math.Bool.{true, false}
use mathlib.Core.List.{List, [], ◌∷◌, ◌++◌}
use Prim.Native.Nat.{ℕ, zero, suc, ◌+◌, ◌-◌, ◌≤◌, ◌<◌}
use Rattle.std.proofs.Math.ListN.{length}
use Rattle.terms.specs.Logic.{pick, by_case, no_way}
use Rattle.alphabet_spec.specs.Digits.{within, Run, long, run}
use Rattle.alphabet_spec.specs.Bytes.{Byte, digit, lead, sign, quest, blank, point, lf, cr, dollar, other, kind}
use Rattle.table_spec.specs.Values.{Value, own, room, value_of}
use Rattle.table_spec.specs.Reading.{Tokens, over, fault, head, value, line, HeadDigits, no_head, sized, comment, Ending, ends, none, ending}
use Rattle.table_spec.specs.Reading.{Mode, fresh, inner, Rest, ended, headed, valued, opening, inside, step, tokens, bare}
use Rattle.line_law.specs.Every.{every}
use Rattle.line_law.specs.Places.{Placed, placed_from}
use Rattle.line_law.specs.Ahead.{Lengthens, RunSame, run_in, run_out, digits_reach, some_reach, HeadSame, within_them, beyond_them, head_reach}

-- a head, or a first token that is none, after which all stands behind l bytes
abbrev pub HeadLast : ℕ → ℕ → Tokens → Type 0
HeadLast l hi (over a) = ⊥
HeadLast l hi (fault c a) = c ≡ 4
HeadLast l hi (head a h u r) = Placed l hi r
HeadLast l hi (value a v r) = ⊥
HeadLast l hi (line r) = ⊥

-- the same of a value, or of a misspelled one
abbrev pub ValueLast : ℕ → ℕ → Tokens → Type 0
ValueLast l hi (over a) = ⊥
ValueLast l hi (fault c a) = c ≡ 5
ValueLast l hi (head a h u r) = ⊥
ValueLast l hi (value a v r) = Placed l hi r
ValueLast l hi (line r) = ⊥

-- the tokens of two texts that have their first l bytes and then the byte y in common: the same, as far as a token of the first that y makes longer, or tokens behind those bytes.
-- Of these, if y is LF, an end of a line is one in both
pub data Same (l y : ℕ) : Tokens → Tokens → Type 0 where
  same_fault : {c a : ℕ} → Same l y (fault c a) (fault c a)
  same_head : {a h u : ℕ} {r s : Tokens} → Same l y r s → Same l y (head a h u r) (head a h u s)
  same_value : {a : ℕ} {v : Value} {r s : Tokens} → Same l y r s → Same l y (value a v r) (value a v s)
  same_line : {r s : Tokens} → Same l y r s → Same l y (line r) (line s)
  long_head : {r s : Tokens} (hi : ℕ) → Lengthens y → HeadLast l hi r → Same l y r s
  long_value : {r s : Tokens} (hi : ℕ) → within 48 10 y ≡ true → ValueLast l hi r → Same l y r s
  behind : {r s : Tokens} (hi : ℕ) → Placed l hi r → (y ≡ 10 → bare r ≡ true → bare s ≡ true) → Same l y r s

-- ---- ends of lines: within the common bytes w, or behind them

data EndSame (w : List ℕ) : Ending → Ending → Type 0 where
  no_ends : EndSame w none none
  near : {n : ℕ} → n ≤ length w → EndSame w (ends n) (ends n)
  far : {n k : ℕ} → length w < n → length w < k → EndSame w (ends n) (ends k)

abbrev further : Ending → Ending
further none = none
further (ends n) = ends (suc n)

end_further : {b : ℕ} {w : List ℕ} {e f : Ending} → EndSame w e f → EndSame (b ∷ w) (further e) (further f)
end_further no_ends = no_ends
end_further (near {n = n} l) = near {n = suc n} (omega arith)
end_further (far {n = n} {k = j} l k) = far {n = suc n} {k = suc j} (omega arith) (omega arith)

end_pick : {w : List ℕ} {e f : Ending} (q : Bool) → EndSame w e f → EndSame w (pick q e none) (pick q f none)
end_pick true h = h
end_pick false h = no_ends

module _ (y : ℕ) where
  comment_same : (w s t : List ℕ) → EndSame w (ends (comment (w ++ y ∷ s))) (ends (comment (w ++ y ∷ t)))
  unfolding comment
  comment_same [] s t =
      by_case (λ q. EndSame [] (ends (pick q 1 (suc (comment s)))) (ends (pick q 1 (suc (comment t))))) (eqb y 10) (λ _. far (omega arith) (omega arith)) (λ _. far (omega arith) (omega arith))
  comment_same (b ∷ w) s t =
      by_case (λ q. EndSame (b ∷ w) (ends (pick q 1 (suc (comment (w ++ y ∷ s))))) (ends (pick q 1 (suc (comment (w ++ y ∷ t)))))) (eqb b 10)
      (λ _. near (omega arith)) (λ _. end_further (comment_same w s t))

  ending_same : (c : Byte) (w s t : List ℕ) → EndSame w (ending c (w ++ y ∷ s)) (ending c (w ++ y ∷ t))
  unfolding ending
  ending_same (digit d) w s t = no_ends
  ending_same (lead k d) w s t = no_ends
  ending_same (sign m) w s t = no_ends
  ending_same quest w s t = no_ends
  ending_same blank w s t = no_ends
  ending_same point w s t = no_ends
  ending_same lf w s t = near {n = 0} (omega arith)
  ending_same cr [] s t = end_pick (eqb y 10) (far {n = 1} {k = 1} (omega arith) (omega arith))
  ending_same cr (b ∷ w) s t = end_pick (eqb b 10) (near {n = 1} (omega arith))
  ending_same dollar [] s t = end_pick (eqb y 36) (far {n = suc (comment s)} {k = suc (comment t)} (omega arith) (omega arith))
  ending_same dollar (b ∷ w) s t = end_pick (eqb b 36) (end_further (comment_same w s t))
  ending_same other w s t = no_ends

-- ---- tokens behind the common bytes

-- before a head no line ends
fresh_bare : (tabs : Bool) (s : List ℕ) (n a : ℕ) → bare (tokens tabs s n a fresh) ≡ false
fresh_bare tabs s n a =
    every a (a + length s) (λ x. bare x ≡ false) (λ x. Unit {0})
    (record { s_over = refl; s_fault = λ c b l x. refl; s_head = λ b h u r x z. refl; i_fault = λ c b l x. tt; i_value = λ b v r x z. tt; i_line = λ r x. tt })
    tabs s n a fresh (omega arith) refl

skipped : (tabs : Bool) (w s : List ℕ) (n a : ℕ) (m : Mode) → tokens tabs (w ++ s) (length w + n) a m ≡ tokens tabs s n (a + length w) m
unfolding tokens
skipped tabs [] s n a m = rw (zero-add n, add-zero a) refl
skipped tabs (b ∷ w) s n a m = rw (suc-add (length w) n, add-suc a (length w), ← suc-add a (length w)) (skipped tabs w s n (suc a) m)

-- after more bytes than are common
placed_behind : (tabs : Bool) (y : ℕ) (w s : List ℕ) (n a l : ℕ) (m : Mode) → l ≡ a + length w → length w < n → Placed l (l + length (y ∷ s)) (tokens tabs (w ++ y ∷ s) n a m)
placed_behind tabs y w s n a l m e g =
    let k : length w + (n - length w) ≡ n = omega arith in
    let p : tokens tabs (w ++ y ∷ s) n a m ≡ tokens tabs (y ∷ s) (n - length w) l m =
    ap (λ j. tokens tabs (w ++ y ∷ s) j a m) (sym k) ∙ skipped tabs w (y ∷ s) (n - length w) a m ∙ ap (λ j. tokens tabs (y ∷ s) (n - length w) j m) (sym e) in
    rw p (placed_from tabs (y ∷ s) (n - length w) l m)

-- the byte y itself: an LF ends a line
lf_bare : (tabs : Bool) (y : ℕ) (s : List ℕ) (a : ℕ) (q : Bool) → y ≡ 10 → bare (tokens tabs (y ∷ s) 0 a (inner q)) ≡ true
unfolding tokens step inside kind ending
lf_bare tabs y s a q e = rw e refl

at_last : (tabs : Bool) (y : ℕ) (s t : List ℕ) (a l : ℕ) (m : Mode) → l ≡ a → Same l y (tokens tabs (y ∷ s) 0 a m) (tokens tabs (y ∷ t) 0 a m)
at_last tabs y s t a l fresh e = rw e (behind (a + length (y ∷ s)) (placed_from tabs (y ∷ s) 0 a fresh) (λ _ h. no_way (sym (fresh_bare tabs (y ∷ s) 0 a) ∙ h)))
at_last tabs y s t a l (inner q) e = rw e (behind (a + length (y ∷ s)) (placed_from tabs (y ∷ s) 0 a (inner q)) (λ g _. lf_bare tabs y t a q g))

-- ---- the tokens of two texts

module _ (y : ℕ) where
  -- one byte at a, and the texts after it
  module _ (w s t : List ℕ) (a l hi : ℕ) (K L : Rest) (ih : (n : ℕ) (m : Mode) → n ≤ length w → Same l y (K n m) (L n m))
      (far_on : (n : ℕ) (m : Mode) → length w < n → Placed l hi (K n m)) (Fresh-on : (n : ℕ) → bare (K n fresh) ≡ false) where
    heads : (m : Bool) {x z : HeadDigits} → HeadSame y w 0 x z → Same l y (headed K a m x) (headed L a m z)
    heads m (within_them {x = no_head} h) = same_fault
    heads m (within_them {x = sized g u n} h) = same_head (ih n (inner false) (omega arith))
    heads m (beyond_them {x = no_head} e h) = long_head hi e refl
    heads m (beyond_them {x = sized g u n} e h) = long_head hi e (far_on n (inner false) (omega arith))

    values : (f : ℕ → Value) {x z : Run} → RunSame y w 0 x z → Same l y (valued K a f x) (valued L a f z)
    values f (run_in {x = long} h) = same_fault
    values f (run_in {x = run v n} h) = same_value (ih n (inner false) (omega arith))
    values f (run_out {x = long} e h) = long_value hi e refl
    values f (run_out {x = run v n} e h) = long_value hi e (far_on n (inner false) (omega arith))

    out : (n k : ℕ) → length w < n → Same l y (K n fresh) (L k fresh)
    out n k h = behind hi (far_on n fresh h) (λ _ g. no_way (sym (Fresh-on n) ∙ g))

    fresh_end : {e f : Ending} → EndSame w e f → Same l y (ended (λ n. K n fresh) a e) (ended (λ n. L n fresh) a f)
    fresh_end no_ends = same_fault
    fresh_end (near {n = n} h) = ih n fresh h
    fresh_end (far {n = n} {k = k} h g) = out n k h

    inner_end : {e f : Ending} → EndSame w e f → Same l y (ended (λ n. line (K n fresh)) a e) (ended (λ n. line (L n fresh)) a f)
    inner_end no_ends = same_fault
    inner_end (near {n = n} h) = same_line (ih n fresh h)
    inner_end (far {n = n} {k = k} h g) = same_line (out n k h)

    opens : (c : Byte) → Same l y (opening K a (w ++ y ∷ s) c) (opening L a (w ++ y ∷ t) c)
    unfolding opening
    opens (digit d) = heads false (head_reach y w s t (digits_reach y w s t 6 d 0))
    opens (lead k d) = same_fault
    opens (sign m) = heads m (head_reach y w s t (some_reach (digits_reach y w s t 7 0 0)))
    opens quest = same_fault
    opens blank = ih 0 fresh (omega arith)
    opens point = same_fault
    opens lf = fresh_end (ending_same y lf w s t)
    opens cr = fresh_end (ending_same y cr w s t)
    opens dollar = fresh_end (ending_same y dollar w s t)
    opens other = same_fault

    insides : (q : Bool) (c : Byte) → Same l y (inside K a (w ++ y ∷ s) q c) (inside L a (w ++ y ∷ t) q c)
    unfolding inside
    insides true (digit d) = values (own false) (digits_reach y w s t 9 d 0)
    insides false (digit d) = same_fault
    insides q (lead k d) = values (value_of k) (digits_reach y w s t (room k d) d 0)
    insides q (sign m) = values (own m) (some_reach (digits_reach y w s t 10 0 0))
    insides q quest = same_value (ih 0 (inner false) (omega arith))
    insides q blank = ih 0 (inner true) (omega arith)
    insides q point = same_fault
    insides q lf = inner_end (ending_same y lf w s t)
    insides q cr = inner_end (ending_same y cr w s t)
    insides q dollar = inner_end (ending_same y dollar w s t)
    insides q other = same_fault

    steps : (m : Mode) (c : Byte) → Same l y (step K a (w ++ y ∷ s) m c) (step L a (w ++ y ∷ t) m c)
    unfolding step
    steps fresh c = opens c
    steps (inner q) c = insides q c

  same_from : (tabs : Bool) (w s t : List ℕ) (n a l : ℕ) (m : Mode) → l ≡ a + length w → n ≤ length w → Same l y (tokens tabs (w ++ y ∷ s) n a m) (tokens tabs (w ++ y ∷ t) n a m)
  unfolding tokens
  same_from tabs [] s t zero a l m e h = at_last tabs y s t a l m (omega arith)
  same_from tabs [] s t (suc n) a l m e h = absurd (not-suc-le-zero h)
  same_from tabs (b ∷ w) s t zero a l m e h =
      let K : Rest = λ n x. tokens tabs (w ++ y ∷ s) n (suc a) x in
      let L : Rest = λ n x. tokens tabs (w ++ y ∷ t) n (suc a) x in
      let ih : (n : ℕ) (x : Mode) → n ≤ length w → Same l y (K n x) (L n x) = λ n x g. same_from tabs w s t n (suc a) l x (omega arith) g in
      steps w s t a l (l + length (y ∷ s)) K L ih (λ n x g. placed_behind tabs y w s n (suc a) l x (omega arith) g) (λ n. fresh_bare tabs (w ++ y ∷ s) n (suc a)) m (kind tabs b)
  same_from tabs (b ∷ w) s t (suc n) a l m e h = same_from tabs w s t n (suc a) l m (omega arith) (le_of_suc-le-suc h)

  -- of two texts that begin with x and y
  pub alike : (tabs : Bool) (x s t : List ℕ) → Same (length x) y (tokens tabs (x ++ y ∷ s) 0 0 fresh) (tokens tabs (x ++ y ∷ t) 0 0 fresh)
  alike tabs x s t = same_from tabs x s t 0 0 (length x) fresh (omega arith) (omega arith)
