-- THE THEOREM: with what stands at the place of a refusal nothing can be right. In what a body says, and in the terms of the public reader's outcome. Assumes nothing.
-- 01, "Refusal numbers": "Reading goes left to right; the first fault decides". So no text that begins with the same bytes, as far as that fault shows, is a table.
use Rattle.std.specs.Prelude.{◌≡◌, Bool, List, ◌∷◌, ◌++◌, ℕ, ◌+◌, ◌≤◌, ◌<◌, leb, ℤ, Result, Ok, Err}
use Rattle.std.proofs.Math.Path.{refl}
use Rattle.std.proofs.Common.{sym, ◌∙◌, subst}
use Rattle.std.proofs.Math.Bool.{true, false}
use native.Mathlib.Omega.{arith}
use Rattle.std.proofs.Math.Dec.{eqb}
use Rattle.std.proofs.Math.ListN.{length}
use borrow.Author.Tests.{eqb-true, eqb-false}
use Rattle.terms.specs.Logic.{pick, by_case, no_way}
use Rattle.terms.specs.Refusals.{refusal_in}
use Rattle.terms.specs.declared.Refusal.{Refusal}
use Rattle.alphabet_spec.specs.Digits.{within}
use Rattle.table_spec.specs.Frame.{Rules, rules, abscissa}
use Rattle.table_spec.specs.Values.{Form, Own, Spot, first, after, last_or, index}
use Rattle.table_spec.specs.Reading.{Tokens, over, fault, head, value, line, Says, adds, refuses, says, Answer, refuse, accept, push, bare, dif_before, took, checked, judge}
use Rattle.table_spec.specs.Reading.{read_lines, long_line, read, read_table}
use Rattle.table_spec.specs.ReadingLaws.{no_accept}
use Rattle.table_law.specs.Spelling.{Spells}
use Rattle.table_law.proofs.LineLengths.{sooner_accept}
use Rattle.line_law.specs.Places.{AnswerIn, judge_in}
use Rattle.line_law.specs.Ahead.{Lengthens, by_digit, by_point}
use Rattle.table_law.proofs.Complete.{complete}
use Rattle.table_law.proofs.Sound.{push_accept, checked_accept}
use Rattle.table_law.proofs.Outcome.{allowed_read, refused_allowed}
use Rattle.table_read.specs.Answers.{told, TableSays}
use Rattle.table_promise.proofs.Promise.{promise}
use Rattle.place_on.specs.Alike.{HeadLast, ValueLast, Same, same_fault, same_head, same_value, same_line, long_head, long_value, behind, alike}
use Rattle.place_on.specs.Sixteen.{LowSays, says_low, other_number, sixteen_long}
use Rattle.place_on.proofs.Sixteen.{long_decided}
use Rattle.place_on.specs.On.{OfHead, misspelled, failing, Decided, push_refuse}

-- an LF behind the place decides every number but 16
pub line_decides : {c z : ℕ} (x : List ℕ) → z < length x → (c ≡ 16 → ⊥) → Decided x 10 c z
line_decides x l n = record { within_them = omega arith; no_digit = λ _ _. refl; no_point = λ _. refl; line_ended = λ _. refl; line_long = λ e. absurd (n e) }

-- and 81 bytes of the line and any byte after them decide 16
pub long_line_decides : {z : ℕ} (x : List ℕ) (y : ℕ) → z + 81 ≤ length x → Decided x y 16 z
long_line_decides x y l =
    record { within_them = omega arith; no_digit = λ _ n. absurd (n refl); no_point = λ h. absurd (no_head_16 h refl); line_ended = λ e. absurd (omega arith); line_long = λ _. omega arith }
  where
    no_head_16 : {c : ℕ} → OfHead c → c ≡ 16 → ⊥
    no_head_16 misspelled e = omega arith
    no_head_16 failing e = omega arith

module _ (R : Rules) (l y c z : ℕ) (inside : z < l) (ended : c ≡ 7 → y ≡ 10) (digit : within 48 10 y ≡ true → c ≡ 3) (point : OfHead c → eqb y 46 ≡ false) where
  late : (hi : ℕ) (x : Answer) → AnswerIn l hi x → x ≡ refuse c z → ⊥
  late hi (refuse d a) h e = let g : a ≡ z = cc in omega (arith, h.0)
  late hi (accept ys) h e = no_accept (sym e)

  head_bare : {A : Type 0} (hi : ℕ) (r : Tokens) → HeadLast l hi r → bare r ≡ true → A
  head_bare hi (over a) q h = no_way h
  head_bare hi (fault d a) q h = no_way h
  head_bare hi (head a g u r) q h = no_way h
  head_bare hi (value a v r) q h = no_way h
  head_bare hi (line r) q h = absurd q

  value_bare : {A : Type 0} (hi : ℕ) (r : Tokens) → ValueLast l hi r → bare r ≡ true → A
  value_bare hi (over a) q h = no_way h
  value_bare hi (fault d a) q h = no_way h
  value_bare hi (head a g u r) q h = no_way h
  value_bare hi (value a v r) q h = no_way h
  value_bare hi (line r) q h = absurd q

  same_bare : {r s : Tokens} → Same l y r s → y ≡ 10 → bare r ≡ true → bare s ≡ true
  same_bare same_fault g h = h
  same_bare (same_head r) g h = h
  same_bare (same_value r) g h = h
  same_bare (same_line r) g h = h
  same_bare (long_head {r = r} hi e q) g h = head_bare hi r q h
  same_bare (long_value {r = r} hi e q) g h = value_bare hi r q h
  same_bare (behind hi q f) g h = f g h

  -- a head that y makes longer is not what was refused
  no_head_number : Lengthens y → (c ≡ 4 → ⊥) × (c ≡ 6 → ⊥) × (c ≡ 7 → ⊥)
  no_head_number (by_digit e) = let g = digit e in (λ h. omega arith, λ h. omega arith, λ h. omega arith)
  no_head_number (by_point e) = (
    λ h. no_way (sym (point (rw h misspelled)) ∙ e),
    λ h. no_way (sym (point (rw h failing)) ∙ e),
    λ h. let f = ended h in let g = eqb-true y 46 e in omega arith,
  )

  head_later : (hi : ℕ) (r : Tokens) → HeadLast l hi r → Lengthens y → (i p : ℕ) (w : Spot) → judge R r i p w ≡ refuse c z → ⊥
  unfolding judge checked
  head_later hi (over a) q e i p w f = q
  head_later hi (fault d a) q e i p w f = (no_head_number e).0 (cc)
  head_later hi (head a h u r) q e i p w f =
      let n = no_head_number e in let x = judge R r i p (first (dif_before w)) in
      by_case (λ t. pick t (pick (bare r) (refuse 7 a) x) (refuse 6 a) ≡ refuse c z → ⊥) (R.passing h u (index (dif_before w) i))
      (λ _. by_case (λ t. pick t (refuse 7 a) x ≡ refuse c z → ⊥) (bare r) (λ _ f. n.2 (cc)) (λ _ f. late hi x (judge_in l hi R r q i p (first (dif_before w))) f)) (λ _ f. n.1 (cc)) f
  head_later hi (value a v r) q e i p w f = q
  head_later hi (line r) q e i p w f = q

  -- nor is a value
  took_later : (g : ℕ → ℕ → Form → Answer) (a i p : ℕ) (x : Says) → LowSays x → c ≡ 3 → ((j q : ℕ) (r : Form) → g j q r ≡ refuse c z → ⊥) → took R g a i p x ≡ refuse c z → ⊥
  unfolding took
  took_later g a i p (refuses n) k e h f = let m : n ≡ c = cc in omega (arith, k.0)
  took_later g a i p (adds us r) k e h f =
      let x = g (i + length us) (last_or p us) r in
      by_case (λ t. pick t (push us x) (refuse 11 a) ≡ refuse c z → ⊥) (leb (i + length us) R.points)
      (λ _ f. h (i + length us) (last_or p us) r (push_refuse us x c z f)) (λ _ f. let m : 11 ≡ c = cc in omega arith) f

  value_later : (hi : ℕ) (r : Tokens) → ValueLast l hi r → within 48 10 y ≡ true → (i p : ℕ) (w : Spot) → judge R r i p w ≡ refuse c z → ⊥
  unfolding judge
  value_later hi (over a) q e i p w f = q
  value_later hi (fault d a) q e i p w f = let g = digit e in let m : d ≡ c = cc in omega arith
  value_later hi (head a h u r) q e i p w f = q
  value_later hi (value a v r) q e i p w f =
      took_later (λ j o g. judge R r j o (after g)) a i p (says w p v) (says_low w p v) (digit e) (λ j o g. late hi (judge R r j o (after g)) (judge_in l hi R r q j o (after g))) f
  value_later hi (line r) q e i p w f = q

  -- a head that passes, with a value in the text that is accepted
  head_fails : (f : Bool → Answer) (a h u : ℕ) (o n : Bool) (i : ℕ) (b : Bool) → R.passing h u (index b i) ≡ true → n ≡ false → (y ≡ 10 → o ≡ true → n ≡ true)
      → (f b ≡ refuse c z → ⊥) → checked R f a h u o i b ≡ refuse c z → ⊥
  unfolding checked
  head_fails f a h u true n i b g e m r = rw g (λ d. no_way (sym e ∙ m (ended (cc)) refl))
  head_fails f a h u false n i b g e m r = rw g r

  value_fails : (f g : ℕ → ℕ → Form → Answer) (a i p : ℕ) (x : Says) (ys : List ℕ) → ((j q : ℕ) (r : Form) (zs : List ℕ) → f j q r ≡ refuse c z → g j q r ≡ accept zs → ⊥)
      → took R f a i p x ≡ refuse c z → took R g a i p x ≡ accept ys → ⊥
  unfolding took
  value_fails f g a i p (refuses n) ys h d e = no_accept e
  value_fails f g a i p (adds us r) ys h d e =
      let j = i + length us in let q = last_or p us in
      by_case (λ t. pick t (push us (f j q r)) (refuse 11 a) ≡ refuse c z → pick t (push us (g j q r)) (refuse 11 a) ≡ accept ys → ⊥) (leb j R.points)
      (λ _ d e. let x = push_accept us (g j q r) ys e in h j q r x.0 (push_refuse us (f j q r) c z d) x.1) (λ _ d e. no_accept e) d e

  -- of two texts with the same tokens so far, the one refused there, the other is not accepted
  fails : {r s : Tokens} → Same l y r s → (i p : ℕ) (w : Spot) (ys : List ℕ) → judge R r i p w ≡ refuse c z → judge R s i p w ≡ accept ys → ⊥
  unfolding judge
  fails same_fault i p w ys f e = no_accept e
  fails (same_head {a = a} {h = h} {u = u} {r = r} {s = s} q) i p w ys f e =
      let x = checked_accept R (λ b. judge R s i p (first b)) a h u (bare s) i (dif_before w) ys e in
      head_fails (λ b. judge R r i p (first b)) a h u (bare r) (bare s) i (dif_before w) x.0 x.1 (same_bare q) (λ d. fails q i p (first (dif_before w)) ys d x.2) f
  fails (same_value {a = a} {v = v} {r = r} {s = s} q) i p w ys f e =
      value_fails (λ j o g. judge R r j o (after g)) (λ j o g. judge R s j o (after g)) a i p (says w p v) ys (λ j o g zs. fails q j o (after g) zs) f e
  fails (same_line q) i p w ys f e = fails q i p w ys f e
  fails (long_head {r = r} hi g q) i p w ys f e = head_later hi r q g i p w f
  fails (long_value {r = r} hi g q) i p w ys f e = value_later hi r q g i p w f
  fails (behind {r = r} hi q g) i p w ys f e = late hi (judge R r i p w) (judge_in l hi R r q i p w) f

-- ---- the theorem, in what a body says

module _ (R : Rules) (x s t : List ℕ) (y c z : ℕ) where
  pub nothing_goes_on : read R (x ++ y ∷ s) ≡ refuse c z → Decided x y c z → (ys : List ℕ) → Spells R ys (x ++ y ∷ t) → ⊥
  unfolding read read_lines
  nothing_goes_on e d ys h =
      let o = sooner_accept (long_line true 0 (x ++ y ∷ t)) (read_lines R (x ++ y ∷ t)) ys (complete R ys (x ++ y ∷ t) h) in
      by_case (λ q. eqb c 16 ≡ q → ⊥) (eqb c 16)
      (λ _ g. let n = eqb-true c 16 g in long_decided x s t y z (d.line_long n) (sixteen_long c z R (x ++ y ∷ s) n e) o.0)
      (λ _ g. let n = eqb-false c 16 g in
      fails R (length x) y c z d.within_them d.line_ended (only_3 n) d.no_point (alike y R.tabs x s t) 0 0 (after Own) ys (other_number c z R (x ++ y ∷ s) n e) o.1) refl
    where
      only_3 : (c ≡ 16 → ⊥) → within 48 10 y ≡ true → c ≡ 3
      only_3 n h = by_case (λ q. eqb c 3 ≡ q → c ≡ 3) (eqb c 3) (λ _ g. eqb-true c 3 g) (λ _ g. no_way (sym (d.no_digit (eqb-false c 3 g) n) ∙ h)) refl

-- ---- the theorem, in the terms of the contract

module _ (f l : ℤ) (n : ℕ) where
  -- the rules that F, L and N make
  abbrev pub Ruled : Rules
  Ruled = rules (abscissa f) (abscissa l) n

  abbrev Refusing : Result ℕ Refusal → Type 0
  Refusing (Ok k) = ⊥
  Refusing (Err r) = Unit {0}

  -- what was answered is what reading the table says
  pub refuses_so : (body : List ℕ) (room : ℕ) (r : Refusal) (a : Answer) → read_table f l n body room ≡ a → Err r ≡ told n body a → read_table f l n body room ≡ refuse r.number r.place
  refuses_so body room r (refuse c b) e h = let g : r ≡ refusal_in body c b = cc in rw g e
  refuses_so body room r (accept ys) e h = absurd (subst Refusing h tt)

  -- THE THEOREM. A body that begins with the bytes x and y is refused with a number from 3 on, and these bytes decide it. Then no text that begins with them is a table: under the
  -- same frame none spells any list
  pub none_right : (x s : List ℕ) (y : ℕ) (out out' : List ℤ) (r : Refusal) → TableSays f l n (x ++ y ∷ s) out out' (Err r) → 3 ≤ r.number → Decided x y r.number r.place
      → (t ys : List ℕ) → Spells Ruled ys (x ++ y ∷ t) → ⊥
  none_right x s y out out' r says from-3 d t ys =
      let body = x ++ y ∷ s in
      let e = refuses_so body (length out) r (read_table f l n body (length out)) refl says.answers in
      let a = refused_allowed f l n body (length out) r.number r.place (λ z. omega arith) (λ z. omega arith) e in
      nothing_goes_on Ruled x s t y r.number r.place (sym (allowed_read f l n body (length out) a) ∙ e) d ys

  -- and the reader accepts none, whatever slice is lent
  pub none_accepted : (x s : List ℕ) (y : ℕ) (out out' : List ℤ) (r : Refusal) → TableSays f l n (x ++ y ∷ s) out out' (Err r) → 3 ≤ r.number → Decided x y r.number r.place
      → (t : List ℕ) (lent left : List ℤ) (k : ℕ) → TableSays f l n (x ++ y ∷ t) lent left (Ok k) → ⊥
  none_accepted x s y out out' r says from-3 d t lent left k z =
      let h = promise f l n (x ++ y ∷ t) lent left z in none_right x s y out out' r says from-3 d t h.list h.spelled
