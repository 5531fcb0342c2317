-- T-13: what the converter makes of a body reads as the body read before, number, place and ordinates. Assumes nothing.
use Rattle.std.specs.Prelude.{◌≡◌, Bool, List, [], ◌∷◌, ℕ, zero, suc, ◌+◌, ◌-◌, ◌*◌, ◌≤◌, leb, ltb, ℤ, length, drop}
use Rattle.std.proofs.Math.Path.{refl, ap}
use Rattle.std.proofs.Common.{sym, ◌∙◌, arith, eqb-true, ne_eqb, leb-true}
use Rattle.std.proofs.Math.Bool.{true, false}
use Rattle.std.proofs.Math.Dec.{eqb}
use Rattle.terms.specs.Logic.{pick, both, by_case, no_way}
use Rattle.terms.specs.Places.{line_of, column_after}
use Rattle.alphabet_spec.specs.Digits.{within, Run, long, run, one_more, digits, some}
use Rattle.alphabet_spec.specs.Bytes.{Byte, digit, lead, sign, quest, blank, point, lf, cr, dollar, other, kind}
use Rattle.alphabet_spec.proofs.KindLaws.{Back, kind_back}
use Rattle.table_spec.specs.Frame.{Rules, rules, abscissa}
use Rattle.table_spec.specs.Values.{Value, own, gap, room, value_of, headed_at, Form, Spot, first, last_or, after, Own}
use Rattle.table_spec.specs.Reading.{Tokens, over, fault, head, value, line, HeadDigits, no_head, sized, comment, starts, ends, none, ending, scaled, pointed, thousandths}
use Rattle.table_spec.specs.Reading.{Mode, fresh, inner, Rest, ended, headed, valued, opening, inside, step, tokens, Says, adds, refuses, says, Answer, dif_before, took, checked, finish, judge}
use Rattle.table_spec.specs.Reading.{read_lines, line_length, long_line, read, read_table}
use Rattle.table_spec.specs.Tabs.{commented, changed, spaced, with_tabs, read_before}

-- within a comment after n bytes?
abbrev later : Bool → ℕ → List ℕ → Bool
later c n [] = false
later c zero (b ∷ s) = c
later c (suc n) (b ∷ s) = later (commented c b s) n s

none_later : (s : List ℕ) → later false 0 s ≡ false
none_later [] = refl
none_later (b ∷ s) = refl

-- ---- bytes

pub eq_same : (c : Bool) (b x : ℕ) → eqb 32 x ≡ false → eqb 9 x ≡ false → eqb (changed c b) x ≡ eqb b x
eq_same true b x h k = refl
eq_same false b x h k =
    by_case (λ t. eqb b 9 ≡ t → eqb (pick t 32 b) x ≡ eqb b x) (eqb b 9) (λ _ e. h ∙ sym (ap (λ (y : ℕ). eqb y x) (eqb-true b 9 e) ∙ k)) (λ _ e. refl) refl

starts_same : (c : Bool) (s : List ℕ) (x : ℕ) → eqb 32 x ≡ false → eqb 9 x ≡ false → starts x (spaced c s) ≡ starts x s
unfolding spaced
starts_same c [] x h k = refl
starts_same c (b ∷ s) x h k = eq_same c b x h k

kind_same : (b : ℕ) → kind false (changed false b) ≡ kind true b
unfolding kind
kind_same b = by_case (λ t. eqb b 9 ≡ t → kind false (pick t 32 b) ≡ kind true b) (eqb b 9) (λ _ e. rw (eqb-true b 9 e) refl) (λ _ e. rw e refl) refl

pub within_same : (b : ℕ) → within 48 10 (changed false b) ≡ within 48 10 b
within_same b = by_case (λ t. eqb b 9 ≡ t → within 48 10 (pick t 32 b) ≡ within 48 10 b) (eqb b 9) (λ _ e. rw (eqb-true b 9 e) refl) (λ _ e. refl) refl

above : (b : ℕ) → within 48 10 b ≡ true → 48 ≤ b
above b = by_case (λ t. leb 48 b ≡ t → pick t (ltb b 58) false ≡ true → 48 ≤ b) (leb 48 b) (λ _ e _. leb-true 48 b e) (λ _ e g. no_way g) refl

-- bytes from 46 on are left as they are, and start no comment
plain_byte : (b : ℕ) (s : List ℕ) → 46 ≤ b → (changed false b ≡ b) × (commented false b s ≡ false)
plain_byte b s l = (rw (ne_eqb b 9 (λ e. omega arith)) refl, rw (ne_eqb b 36 (λ e. omega arith)) refl)

-- ---- what is looked at ahead

pub more_same : (f g : ℕ → ℕ → ℕ → Run) (m v n d : ℕ) → ((m v n : ℕ) → f m v n ≡ g m v n) → one_more f m v n d ≡ one_more g m v n d
more_same f g zero v n d h = refl
more_same f g (suc m) v n d h = h m (v * 10 + d) (suc n)

digits_same : (s : List ℕ) (m v n : ℕ) → digits (spaced false s) m v n ≡ digits s m v n
unfolding digits spaced
digits_same [] m v n = refl
digits_same (b ∷ s) m v n =
    by_case (λ t. within 48 10 b ≡ t → pick (within 48 10 (changed false b)) (one_more (digits (spaced (commented false b s) s)) m v n (changed false b - 48)) (run v n)
    ≡ pick t (one_more (digits s) m v n (b - 48)) (run v n)) (within 48 10 b)
    (λ _ e. let z = plain_byte b s (let l = above b e in omega arith) in
    rw (z.0, z.1, e) (more_same (digits (spaced false s)) (digits s) m v n (b - 48) (digits_same s)))
    (λ _ e. rw (within_same b ∙ e) refl) refl

abbrev Clear : ℕ → List ℕ → Run → Type 0
Clear n s long = Unit {0}
Clear n s (run v k) = (j : ℕ) × (k ≡ n + j) × (later false j s ≡ false)

clear_more : (b : ℕ) (s : List ℕ) (n : ℕ) (x : Run) → commented false b s ≡ false → Clear (suc n) s x → Clear n (b ∷ s) x
clear_more b s n long e h = tt
clear_more b s n (run v k) e h = let z = h.1 in (suc h.0, omega arith, rw e h.2)

one_clear : (f : ℕ → ℕ → ℕ → Run) (b : ℕ) (s : List ℕ) (m v n d : ℕ) → commented false b s ≡ false → ((m v : ℕ) → Clear (suc n) s (f m v (suc n))) → Clear n (b ∷ s) (one_more f m v n d)
one_clear f b s zero v n d e h = tt
one_clear f b s (suc m) v n d e h = clear_more b s n (f m (v * 10 + d) (suc n)) e (h m (v * 10 + d))

digits_clear : (s : List ℕ) (m v n : ℕ) → Clear n s (digits s m v n)
unfolding digits
digits_clear [] m v n = (0, omega arith, none_later [])
digits_clear (b ∷ s) m v n =
    by_case (λ t. within 48 10 b ≡ t → Clear n (b ∷ s) (pick t (one_more (digits s) m v n (b - 48)) (run v n))) (within 48 10 b)
    (λ _ e. let z = plain_byte b s (let l = above b e in omega arith) in one_clear (digits s) b s m v n (b - 48) z.1 (λ m v. digits_clear s m v (suc n)))
    (λ _ e. (0, omega arith, none_later (b ∷ s))) refl

some_clear : (s : List ℕ) (n : ℕ) (x : Run) → Clear n s x → Clear n s (some x)
some_clear s n long h = tt
some_clear s n (run v zero) h = tt
some_clear s n (run v (suc k)) h = h

drop_spaced : (n : ℕ) (s : List ℕ) (c : Bool) → drop n (spaced c s) ≡ spaced (later c n s) (drop n s)
unfolding spaced
drop_spaced zero [] c = refl
drop_spaced zero (b ∷ s) c = refl
drop_spaced (suc n) [] c = refl
drop_spaced (suc n) (b ∷ s) c = drop_spaced n s (commented c b s)

later_later : (i j : ℕ) (s : List ℕ) (c : Bool) → later c i s ≡ false → later false j (drop i s) ≡ false → later c (i + j) s ≡ false
later_later i j [] c h k = refl
later_later zero j (b ∷ s) c h k = let z : 0 + j ≡ j = omega arith in rw (z, h) k
later_later (suc i) j (b ∷ s) c h k = let z : suc i + j ≡ suc (i + j) = omega arith in rw z (later_later i j s (commented c b s) h k)

abbrev HeadClear : ℕ → List ℕ → HeadDigits → Type 0
HeadClear n s no_head = Unit {0}
HeadClear n s (sized h u k) = (j : ℕ) × (k ≡ n + j) × (later false j s ≡ false)

pointed_same : (s : List ℕ) (w n : ℕ) → pointed (spaced false s) w n ≡ pointed s w n
unfolding pointed spaced
pointed_same [] w n = refl
pointed_same (b ∷ s) w n =
    by_case (λ t. eqb b 46 ≡ t → pick (eqb (changed false b) 46) (scaled n (digits (spaced (commented false b s) s) 3 w 0)) (sized (w * 1000) 1000 n)
    ≡ pick t (scaled n (digits s 3 w 0)) (sized (w * 1000) 1000 n)) (eqb b 46)
    (λ _ e. rw (eq_same false b 46 refl refl ∙ e, (plain_byte b s (let l = eqb-true b 46 e in omega arith)).1, digits_same s 3 w 0) refl)
    (λ _ e. rw (eq_same false b 46 refl refl ∙ e) refl) refl

scaled_clear : (b : ℕ) (s : List ℕ) (n : ℕ) (x : Run) → commented false b s ≡ false → Clear 0 s x → HeadClear n (b ∷ s) (scaled n x)
unfolding scaled
scaled_clear b s n long e h = tt
scaled_clear b s n (run v k) e h = let z = h.1 in (suc h.0, omega arith, rw e h.2)

pointed_clear : (s : List ℕ) (w n : ℕ) → HeadClear n s (pointed s w n)
unfolding pointed
pointed_clear [] w n = (0, omega arith, none_later [])
pointed_clear (b ∷ s) w n =
    by_case (λ t. eqb b 46 ≡ t → HeadClear n (b ∷ s) (pick t (scaled n (digits s 3 w 0)) (sized (w * 1000) 1000 n))) (eqb b 46)
    (λ _ e. scaled_clear b s n (digits s 3 w 0) (plain_byte b s (let l = eqb-true b 46 e in omega arith)).1 (digits_clear s 3 w 0)) (λ _ e. (0, omega arith, none_later (b ∷ s))) refl

head_same : (s : List ℕ) (x : Run) → Clear 0 s x → thousandths (spaced false s) x ≡ thousandths s x
unfolding thousandths
head_same s long h = refl
head_same s (run w n) h = let z : n ≡ h.0 = (let y = h.1 in omega arith) in rw (drop_spaced n s false, z, h.2) (pointed_same (drop h.0 s) w h.0)

joined : (s : List ℕ) (i : ℕ) (x : HeadDigits) → later false i s ≡ false → HeadClear i (drop i s) x → HeadClear 0 s x
joined s i no_head e h = tt
joined s i (sized g u k) e h = let z = h.1 in (i + h.0, omega arith, later_later i h.0 s false e h.2)

head_clear : (s : List ℕ) (x : Run) → Clear 0 s x → HeadClear 0 s (thousandths s x)
unfolding thousandths
head_clear s long h = tt
head_clear s (run w n) h = let z : n ≡ h.0 = (let y = h.1 in omega arith) in joined s n (pointed (drop n s) w n) (rw z h.2) (pointed_clear (drop n s) w n)

comment_same : (c : Bool) (s : List ℕ) → comment (spaced c s) ≡ comment s
unfolding comment spaced
comment_same c [] = refl
comment_same c (b ∷ s) = rw (eq_same c b 10 refl refl, comment_same (commented c b s) s) refl

comment_clear : (s : List ℕ) → later true (comment s) s ≡ false
unfolding comment
comment_clear [] = refl
comment_clear (b ∷ s) =
    by_case (λ t. eqb b 10 ≡ t → later true (pick t 1 (suc (comment s))) (b ∷ s) ≡ false) (eqb b 10)
    (λ _ e. rw e (none_later s)) (λ _ e. rw e (comment_clear s)) refl

length_same : (c : Bool) (s : List ℕ) → line_length (spaced c s) ≡ line_length s
unfolding line_length spaced
length_same c [] = refl
length_same c (b ∷ s) = rw (eq_same c b 10 refl refl, eq_same c b 13 refl refl, starts_same (commented c b s) s 10 refl refl, length_same (commented c b s) s) refl

-- ---- one byte that is no dollar, and the text after it

module _ (s : List ℕ) (a : ℕ) (K1 K2 : Rest) (ih : (n : ℕ) (m : Mode) → later false n s ≡ false → K1 n m ≡ K2 n m) where
  heads : (m : Bool) (x : HeadDigits) → HeadClear 0 s x → headed K1 a m x ≡ headed K2 a m x
  heads m no_head l = refl
  heads m (sized g u n) l = let z : n ≡ l.0 = (let y = l.1 in omega arith) in ap (head a (headed_at m g) u) (ih n (inner false) (rw z l.2))

  values : (f : ℕ → Value) (x : Run) → Clear 0 s x → valued K1 a f x ≡ valued K2 a f x
  values f long l = refl
  values f (run v n) l = let z : n ≡ l.0 = (let y = l.1 in omega arith) in ap (value a (f v)) (ih n (inner false) (rw z l.2))

  lf_after : (s : List ℕ) → starts 10 s ≡ true → later false 1 s ≡ false
  lf_after [] e = refl
  lf_after (x ∷ s) e = rw (eqb-true x 10 e) (none_later s)

  fresh_cr : ended (λ n. K1 n fresh) a (ending cr (spaced false s)) ≡ ended (λ n. K2 n fresh) a (ending cr s)
  unfolding ending
  fresh_cr =
      rw (starts_same false s 10 refl refl)
      (by_case (λ t. starts 10 s ≡ t → ended (λ n. K1 n fresh) a (pick t (ends 1) none) ≡ ended (λ n. K2 n fresh) a (pick t (ends 1) none)) (starts 10 s)
      (λ _ e. ih 1 fresh (lf_after s e)) (λ _ e. refl) refl)

  inner_cr : ended (λ n. line (K1 n fresh)) a (ending cr (spaced false s)) ≡ ended (λ n. line (K2 n fresh)) a (ending cr s)
  unfolding ending
  inner_cr =
      rw (starts_same false s 10 refl refl)
      (by_case (λ t. starts 10 s ≡ t → ended (λ n. line (K1 n fresh)) a (pick t (ends 1) none) ≡ ended (λ n. line (K2 n fresh)) a (pick t (ends 1) none)) (starts 10 s)
      (λ _ e. ap line (ih 1 fresh (lf_after s e))) (λ _ e. refl) refl)

  opens : (b : ℕ) (c : Byte) → eqb b 36 ≡ false → Back true b c → opening K1 a (spaced false s) c ≡ opening K2 a s c
  unfolding opening ending
  opens b (digit d) e k =
      rw (digits_same s 6 d 0, head_same s (digits s 6 d 0) (digits_clear s 6 d 0)) (heads false (thousandths s (digits s 6 d 0)) (head_clear s (digits s 6 d 0) (digits_clear s 6 d 0)))
  opens b (lead q d) e k = refl
  opens b (sign m) e k =
      let l = some_clear s 0 (digits s 7 0 0) (digits_clear s 7 0 0) in
      rw (digits_same s 7 0 0, head_same s (some (digits s 7 0 0)) l) (heads m (thousandths s (some (digits s 7 0 0))) (head_clear s (some (digits s 7 0 0)) l))
  opens b quest e k = refl
  opens b blank e k = ih 0 fresh (none_later s)
  opens b point e k = refl
  opens b lf e k = ih 0 fresh (none_later s)
  opens b cr e k = fresh_cr
  opens b dollar e k = no_way (sym e ∙ ap (λ (x : ℕ). eqb x 36) k)
  opens b other e k = refl

  insides : (b : ℕ) (q : Bool) (c : Byte) → eqb b 36 ≡ false → Back true b c → inside K1 a (spaced false s) q c ≡ inside K2 a s q c
  unfolding inside ending
  insides b true (digit d) e k = rw (digits_same s 9 d 0) (values (own false) (digits s 9 d 0) (digits_clear s 9 d 0))
  insides b false (digit d) e k = refl
  insides b q (lead x d) e k = rw (digits_same s (room x d) d 0) (values (value_of x) (digits s (room x d) d 0) (digits_clear s (room x d) d 0))
  insides b q (sign m) e k = rw (digits_same s 10 0 0) (values (own m) (some (digits s 10 0 0)) (some_clear s 0 (digits s 10 0 0) (digits_clear s 10 0 0)))
  insides b q quest e k = ap (value a gap) (ih 0 (inner false) (none_later s))
  insides b q blank e k = ih 0 (inner true) (none_later s)
  insides b q point e k = refl
  insides b q lf e k = ap line (ih 0 fresh (none_later s))
  insides b q cr e k = inner_cr
  insides b q dollar e k = no_way (sym e ∙ ap (λ (x : ℕ). eqb x 36) k)
  insides b q other e k = refl

  steps : (b : ℕ) (m : Mode) (c : Byte) → eqb b 36 ≡ false → Back true b c → step K1 a (spaced false s) m c ≡ step K2 a s m c
  unfolding step
  steps b fresh c e k = opens b c e k
  steps b (inner q) c e k = insides b q c e k

-- ---- a dollar: a comment, or a lone one

module _ (x : ℕ) (s : List ℕ) (a : ℕ) (K1 K2 : Rest) (e : eqb x 36 ≡ true) (ih : (n : ℕ) (m : Mode) → later true n (x ∷ s) ≡ false → K1 n m ≡ K2 n m) where
  past : later true (suc (comment s)) (x ∷ s) ≡ false
  past = rw (eqb-true x 36 e) (comment_clear s)

  dollars : (m : Mode) → step K1 a (spaced true (x ∷ s)) m dollar ≡ step K2 a (x ∷ s) m dollar
  unfolding step opening inside ending spaced
  dollars fresh = rw (e, comment_same (commented true x s) s) (ih (suc (comment s)) fresh past)
  dollars (inner q) = rw (e, comment_same (commented true x s) s) (ap line (ih (suc (comment s)) fresh past))

lone : (s : List ℕ) (a : ℕ) (K1 K2 : Rest) (m : Mode) → starts 36 s ≡ false → step K1 a (spaced false s) m dollar ≡ step K2 a s m dollar
unfolding step opening inside ending
lone s a K1 K2 fresh e = rw (starts_same false s 36 refl refl, e) refl
lone s a K1 K2 (inner q) e = rw (starts_same false s 36 refl refl, e) refl

-- one byte outside a comment
one : (b : ℕ) (s : List ℕ) (a : ℕ) (K1 K2 : Rest) (m : Mode) → ((n : ℕ) (x : Mode) → later (commented false b s) n s ≡ false → K1 n x ≡ K2 n x)
    → step K1 a (spaced (commented false b s) s) m (kind true b) ≡ step K2 a s m (kind true b)
unfolding kind
one b s a K1 K2 m =
    by_case (λ t. eqb b 36 ≡ t → ((n : ℕ) (x : Mode) → later (both t (starts 36 s)) n s ≡ false → K1 n x ≡ K2 n x)
    → step K1 a (spaced (both t (starts 36 s)) s) m (kind true b) ≡ step K2 a s m (kind true b)) (eqb b 36)
    (λ _ e. rw (eqb-true b 36 e) (at_dollar s)) (λ _ e ih. steps s a K1 K2 ih b m (kind true b) e (kind_back true b)) refl
  where
    at_dollar : (s : List ℕ) → ((n : ℕ) (x : Mode) → later (starts 36 s) n s ≡ false → K1 n x ≡ K2 n x) → step K1 a (spaced (starts 36 s) s) m dollar ≡ step K2 a s m dollar
    at_dollar [] ih = lone [] a K1 K2 m refl
    at_dollar (x ∷ s) ih₀ =
        by_case (λ t. eqb x 36 ≡ t → ((n : ℕ) (y : Mode) → later t n (x ∷ s) ≡ false → K1 n y ≡ K2 n y) → step K1 a (spaced t (x ∷ s)) m dollar ≡ step K2 a (x ∷ s) m dollar) (eqb x 36)
        (λ _ e ih. dollars x s a K1 K2 e ih m) (λ _ e ih. lone (x ∷ s) a K1 K2 m e) refl ih₀

-- the tokens are the same, place for place
pub same_tokens : (s : List ℕ) (c : Bool) (n a : ℕ) (m : Mode) → later c n s ≡ false → tokens false (spaced c s) n a m ≡ tokens true s n a m
unfolding tokens spaced
same_tokens [] c n a m h = refl
same_tokens (b ∷ s) c (suc n) a m h = same_tokens s (commented c b s) n (suc a) m h
same_tokens (b ∷ s) true zero a m h = no_way (sym h)
same_tokens (b ∷ s) false zero a m h =
    let K1 : Rest = λ n x. tokens false (spaced (commented false b s) s) n (suc a) x in
    let K2 : Rest = λ n x. tokens true s n (suc a) x in
    rw (kind_same b, one b s a K1 K2 m (λ n x g. same_tokens s (commented false b s) n (suc a) x g)) refl

-- ---- rules without tabs, and with them

abbrev no_tabs : Rules → Rules
no_tabs R = record { points = R.points; passing = R.passing; tabs = false }

same_took : (R : Rules) (f g : ℕ → ℕ → Form → Answer) (a i p : ℕ) (x : Says) → ((j q : ℕ) (r : Form) → f j q r ≡ g j q r) → took (no_tabs R) f a i p x ≡ took (with_tabs R) g a i p x
unfolding took
same_took R f g a i p (refuses c) h = refl
same_took R f g a i p (adds vs r) h = rw (h (i + length vs) (last_or p vs) r) refl

same_judge : (R : Rules) (x : Tokens) (i p : ℕ) (w : Spot) → judge (no_tabs R) x i p w ≡ judge (with_tabs R) x i p w
unfolding judge checked finish
same_judge R (over a) i p w = refl
same_judge R (fault c a) i p w = refl
same_judge R (head a h u r) i p w = rw (same_judge R r i p (first (dif_before w))) refl
same_judge R (value a v r) i p w =
    same_took R (λ j q f. judge (no_tabs R) r j q (after f)) (λ j q f. judge (with_tabs R) r j q (after f)) a i p (says w p v) (λ j q f. same_judge R r j q (after f))
same_judge R (line r) i p w = same_judge R r i p w

same_long : (c begins : Bool) (a : ℕ) (s : List ℕ) → long_line begins a (spaced c s) ≡ long_line begins a s
unfolding long_line spaced
same_long c begins a [] = refl
same_long c begins a (b ∷ s) = rw (length_same c (b ∷ s), eq_same c b 10 refl refl, same_long (commented c b s) (eqb b 10) (suc a) s) refl

-- "its output reads as the old reader read the input, numbers and places equal, for all bodies"
pub converted_reads : (R : Rules) (s : List ℕ) → read (no_tabs R) (spaced false s) ≡ read (with_tabs R) s
unfolding read read_lines
converted_reads R s =
    rw (same_long false true 0 s, same_tokens s false 0 0 fresh (none_later s), same_judge R (tokens true s 0 0 fresh) 0 0 (after Own)) refl

-- "keeps every other byte and the length"
pub length_spaced : (c : Bool) (s : List ℕ) → length (spaced c s) ≡ length s
unfolding spaced
length_spaced c [] = refl
length_spaced c (b ∷ s) = ap suc (length_spaced (commented c b s) s)

-- the same with the frame and the room
pub converted_table : (f l : ℤ) (n : ℕ) (s : List ℕ) (space : ℕ) → read_table f l n (spaced false s) space ≡ read_before f l n s space
unfolding read_table read_before
converted_table f l n s space = rw (length_spaced false s, converted_reads (rules (abscissa f) (abscissa l) n) s) refl

-- ---- lines and columns

pub same_line : (c : Bool) (s : List ℕ) (a : ℕ) → line_of (spaced c s) a ≡ line_of s a
unfolding line_of spaced
same_line c [] a = refl
same_line c (b ∷ s) zero = refl
same_line c (b ∷ s) (suc a) = rw (eq_same c b 10 refl refl, same_line (commented c b s) s a) refl

pub same_column : (c : Bool) (k : ℕ) (s : List ℕ) (a : ℕ) → column_after k (spaced c s) a ≡ column_after k s a
unfolding column_after spaced
same_column c k [] a = refl
same_column c k (b ∷ s) zero = refl
same_column c k (b ∷ s) (suc a) =
    ap (λ (t : Bool). column_after (pick t 1 (suc k)) (spaced (commented c b s) s) a) (eq_same c b 10 refl refl) ∙ same_column (commented c b s) (pick (eqb b 10) 1 (suc k)) s a
