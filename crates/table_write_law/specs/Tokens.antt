-- Written tokens and groups are spelled. Assumes nothing.
use Rattle.std.specs.Prelude.{◌≡◌, refl, Bool, List, [], ◌∷◌, ◌++◌, ℕ, suc, ◌+◌, ◌-◌, ◌≤◌, ◌<◌, leb, eqb, length, take}
use Rattle.std.proofs.Common.{sym, ap, ◌∙◌, subst, append_assoc, add-zero, lit≤, length-append, leb-true, leb-false, eqb-true}
use Rattle.std.proofs.Math.Bool.{true, false}
use native.Mathlib.Omega.{arith}
use Rattle.std.proofs.lemmas.Bool.{eqb-false}
use Rattle.terms.specs.Logic.{pick, by_case, no_way}
use Rattle.alphabet_spec.specs.Kinds.{sqz, dif, dup}
use Rattle.table_spec.specs.Frame.{Rules, zero_ordinate}
use Rattle.table_spec.specs.Values.{Value, own, gap, times, Form, Own, Gap, By, Dup, is_dif, Spot, first, after, next, copies, last_or}
use Rattle.table_spec.specs.Numerals.{numeral}
use Rattle.table_spec.specs.Groups.{form, sqz_text, token_text, alike, many, dup_text}
use Rattle.table_law.specs.Spelling as sp
use Rattle.table_law.specs.Small.{Small}
use Rattle.table_law.proofs.Meaning.{step, own_copies, gap_copies}
use Rattle.table_law.proofs.Sound.{ends}
use Rattle.table_write_law.specs.Numbers.{Spellable, numeral_spelled}
use Rattle.alphabet_spec.specs.Kinds.{sqz, dif, dup, space}
use Rattle.table_spec.specs.declared.Style.{Style}
use Rattle.table_spec.specs.declared.Style.TheVariants.{Affn, Pac, Sqz, Difdup}
use Rattle.table_spec.specs.Values.{Value, own, gap, times, Form, Own, Gap, By, Dup, is_dif, Spot, first, after, next, copies, last_or}
use Rattle.table_spec.specs.Groups.{in_full, form, sqz_text, plain_text, pac_text, affn_text, own_text, gap_text, seen_after, token_text, alike, many, more_of, dup_text}
use Rattle.table_write_law.specs.Numbers.{Spellable, digits, top_small, numeral_spelled}
use Rattle.alphabet_spec.specs.SpelledDigits.{SpelledDigits, none}
use Rattle.alphabet_spec.proofs.SpelledDigitLaws.{first_digit}

-- ---- a line from one of its values on, and the lines after it

pub record Inside (R : Rules) (w : Spot) (i p : ℕ) (ys t : List ℕ) : Type 0 where
  pub vs : List ℕ
  pub us : List ℕ
  pub form_at : Form
  pub end_at : ℕ
  pub rest : List ℕ
  pub all : vs ++ us ≡ ys
  pub line : sp.Line R.tabs false w p vs form_at end_at t rest
  pub body : sp.Body R (i + length vs) end_at (is_dif form_at) us rest

-- the text t is a head with the abscissa h, of some unit, and then s; and it passes for the point i
pub record Passing (R : Rules) (i h : ℕ) (t s : List ℕ) : Type 0 where
  pub unit : ℕ
  pub spelled : sp.Head h unit t s
  pub passes : R.passing h unit i ≡ true

module _ {R : Rules} {i p : ℕ} {ys : List ℕ} where
  -- CR LF, and the next lines
  pub line_ends : {r : Form} {s : List ℕ} → sp.Body R i p (is_dif r) ys s → Inside R (after r) i p ys (13 ∷ 10 ∷ s)
  line_ends {r} {s} b =
      record { vs = []; us = ys; form_at = r; end_at = p; rest = s; all = refl; line = sp.done sp.cr_lf; body = rw add-zero b }

  -- some points, and what follows them on their line and after it
  adds : {w : Spot} {e : ℕ} {t s : List ℕ} {f : Form} (us : List ℕ) (n : Inside R (after f) (i + length us) e ys s)
      → sp.Line R.tabs false w p (us ++ n.vs) n.form_at n.end_at t n.rest → Inside R w i p (us ++ ys) t
  adds us n l =
      let e : i + length (us ++ n.vs) ≡ i + length us + length n.vs = omega (arith, length-append us n.vs) in
      record {
        vs = us ++ n.vs;
        us = n.us;
        form_at = n.form_at;
        end_at = n.end_at;
        rest = n.rest;
        all = append_assoc us n.vs n.us ∙ ap (λ (l : List ℕ). us ++ l) n.all;
        line = l;
        body = rw e n.body;
      }

  -- a value
  pub valued : {w : Spot} {x : Value} {e : ℕ} {us t s : List ℕ} {f : Form}
      → sp.Spelled false x t s → sp.Stands w p x us f e → Inside R (after f) (i + length us) e ys s → Inside R w i p (us ++ ys) t
  valued {us = us} k h n = adds us n (sp.value k h n.line)

  -- a value after a space
  pub spaced : {w : Spot} {x : Value} {e : ℕ} {us t s : List ℕ} {f : Form}
      → sp.Spelled true x t s → sp.Stands w p x us f e → Inside R (after f) (i + length us) e ys s → Inside R w i p (us ++ ys) (32 ∷ t)
  spaced {us = us} k h n = adds us n (sp.blank space (sp.value k h n.line))

  -- a head, and its line
  pub headed : {c : Bool} {h j : ℕ} {t s : List ℕ} → Passing R j h t s → sp.Belongs c i j → Inside R (first c) i p ys s → sp.Body R i p c ys t
  headed h b n = rw (← n.all) (sp.row h.spelled b h.passes n.line (ends n.form_at) n.body)

-- ---- one value

-- the digits of a number of at most ten
plain_digits : {s : List ℕ} (v : ℕ) → v < 10000000000 → (n : ℕ) × (0 < n) × (n ≤ 10) × SpelledDigits n 0 v (plain_text v ++ s) s
unfolding plain_text
plain_digits {s} v h = let r = digits {s = s} 9 9 v v 0 [] (lit≤ tt) h none in (suc r.0, omega arith, omega (arith, r.1), first_digit (top_small 9 v h) r.2)

plus_spelled : {s : List ℕ} (v : ℕ) → v < 10000000000 → sp.Spelled true (own false v) (plain_text v ++ s) s
plus_spelled v h = let z = plain_digits v h in sp.plain z.1 z.2 z.3

minus_spelled : {q : Bool} {s : List ℕ} (v : ℕ) → v < 10000000000 → sp.Spelled q (own true v) (45 ∷ plain_text v ++ s) s
minus_spelled v h = let z = plain_digits v h in sp.minus z.1 z.2 z.3

-- an ordinate in two ways of writing, for one that is not negative and for one that is
pub by_sign : (P : List ℕ → Type 0) (a b : ℕ → List ℕ) (u : ℕ) → 0 < u → u < 4294967296 → ((v : ℕ) → v ≤ 2147483647 → sp.Sized false v u → P (a v))
    → ((v : ℕ) → 0 < v → v ≤ 2147483647 → sp.Sized true v u → P (b v)) → P (pick (leb zero_ordinate u) (a (u - zero_ordinate)) (b (zero_ordinate - u)))
by_sign P a b u g l x y =
    by_case (λ t. P (pick t (a (u - zero_ordinate)) (b (zero_ordinate - u)))) (leb zero_ordinate u)
    (λ t. let k = leb-true zero_ordinate u t in let z : zero_ordinate + (u - zero_ordinate) ≡ u = omega arith in
    x (u - zero_ordinate) (omega arith) (subst (sp.Sized false (u - zero_ordinate)) z (sp.size_up (omega arith))))
    (λ t. let k = leb-false zero_ordinate u t in let z : zero_ordinate - (zero_ordinate - u) ≡ u = omega arith in
    y (zero_ordinate - u) (omega arith) (omega arith) (subst (sp.Sized true (zero_ordinate - u)) z (sp.size_down (omega arith))))

-- what an ordinate of its own stands for at a spot, whatever its sign
abbrev Standing : Spot → ℕ → List ℕ → Form → ℕ → ℕ → Type 0
Standing w p us f e u = (m : Bool) (v : ℕ) → sp.Sized m v u → sp.Stands w p (own m v) us f e

module _ {R : Rules} {w : Spot} {i p e : ℕ} {us ys s : List ℕ} {f : Form} where
  pub sqz_value : (u : ℕ) → 0 < u → u < 4294967296 → Standing w p us f e u → Inside R (after f) (i + length us) e ys s → Inside R w i p (us ++ ys) (sqz_text u ++ s)
  unfolding sqz_text
  sqz_value u a b h n =
      by_sign (λ t. Inside R w i p (us ++ ys) (t ++ s)) (numeral (sqz false)) (numeral (sqz true)) u a b
      (λ v l z. let k : Spellable (sqz false) v = record { short = omega arith; some = λ z. no_way (sym z) } in valued (numeral_spelled (sqz false) v k) (h false v z) n)
      (λ v g l z. let k : Spellable (sqz true) v = record { short = omega arith; some = λ z. g } in valued (numeral_spelled (sqz true) v k) (h true v z) n)

  -- an ordinate of its own, in each of the four forms
  pub own_value : (st : Style) (u : ℕ) → 0 < u → u < 4294967296 → Standing w p us f e u → Inside R (after f) (i + length us) e ys s → Inside R w i p (us ++ ys) (own_text st u ++ s)
  unfolding affn_text pac_text
  own_value Affn u a b h n =
      by_sign (λ t. Inside R w i p (us ++ ys) (t ++ s)) (λ v. 32 ∷ plain_text v) (λ v. 32 ∷ 45 ∷ plain_text v) u a b
      (λ v l z. spaced (plus_spelled v (omega arith)) (h false v z) n) (λ v g l z. spaced (minus_spelled v (omega arith)) (h true v z) n)
  own_value Pac u a b h n =
      by_sign (λ t. Inside R w i p (us ++ ys) (t ++ s)) (λ v. 32 ∷ plain_text v) (λ v. 45 ∷ plain_text v) u a b
      (λ v l z. spaced (plus_spelled v (omega arith)) (h false v z) n) (λ v g l z. valued (minus_spelled v (omega arith)) (h true v z) n)
  own_value Sqz u a b h n = sqz_value u a b h n
  own_value Difdup u a b h n = sqz_value u a b h n

  -- a missing one
  pub gap_value : (st : Style) → sp.Stands w p gap us f e → Inside R (after f) (i + length us) e ys s → Inside R w i p (us ++ ys) (gap_text st ++ s)
  gap_value Affn h n = spaced sp.missing h n
  gap_value Pac h n = valued sp.missing h n
  gap_value Sqz h n = valued sp.missing h n
  gap_value Difdup h n = valued sp.missing h n

-- the four forms
pub form_cases : (P : Form → Type 0) (p y : ℕ) → (y ≡ 0 → P Gap) → (0 < y → p ≡ 0 → P Own) → (0 < y → 0 < p → p ≤ y → P (By false (y - p)))
    → (0 < y → 0 < p → y < p → P (By true (p - y))) → P (form p y)
unfolding form
form_cases P p y a b c d =
    by_case (λ t. P (pick t Gap (pick (eqb p 0) Own (pick (leb p y) (By false (y - p)) (By true (p - y)))))) (eqb y 0) (λ e. a (eqb-true y 0 e))
    (λ e. let y0 : 0 < y = omega (arith, eqb-false y 0 e) in
    by_case (λ t. P (pick t Own (pick (leb p y) (By false (y - p)) (By true (p - y))))) (eqb p 0) (λ f. b y0 (eqb-true p 0 f))
    (λ f. let p0 : 0 < p = omega (arith, eqb-false p 0 f) in
    by_case (λ t. P (pick t (By false (y - p)) (By true (p - y)))) (leb p y) (λ g. c y0 p0 (leb-true p y g)) (λ g. d y0 p0 (leb-false p y g))))

-- before the first value of a line there is none to differ from
pub seen_none : (st : Style) → seen_after st 0 ≡ 0
seen_none Affn = refl
seen_none Pac = refl
seen_none Sqz = refl
seen_none Difdup = refl

module _ {R : Rules} {i p : ℕ} {ys s : List ℕ} (st : Style) where
  -- a value that is written in full, at any spot
  lone_value : {w : Spot} (y : ℕ) → y < 4294967296 → ((m : Bool) (v : ℕ) → sp.Sized m v y → sp.Stands w p (own m v) (y ∷ []) Own y) → sp.Stands w p gap (0 ∷ []) Gap 0
      → Inside R (after (form 0 y)) (i + 1) y ys s → Inside R w i p (y ∷ ys) (token_text st (form 0 y) y ++ s)
  unfolding token_text
  lone_value {w = w} y h o g =
      form_cases (λ r. Inside R (after r) (i + 1) y ys s → Inside R w i p (y ∷ ys) (token_text st r y ++ s)) 0 y
      (λ e n. rw e (gap_value {us = 0 ∷ []} st g (rw e at n)))
      (λ a b n. own_value {us = y ∷ []} st y a h o n)
      (λ a b c n. absurd (omega arith))
      (λ a b c n. absurd (omega arith))

  -- the first value of a line that is no check line
  pub first_value : (y : ℕ) → y < 4294967296 → Inside R (after (form (seen_after st 0) y)) (i + 1) y ys s → Inside R (first false) i p (y ∷ ys) (token_text st (form (seen_after st 0) y) y ++ s)
  first_value y h n = rw (seen_none st) (lone_value y h (λ m v z. sp.own_first z) sp.gap_first (rw (seen_none st) at n))

  -- a value after another, a difference where there is one
  moved_value : {r : Form} (y : ℕ) → p < 4294967296 → y < 4294967296 → Inside R (after (form p y)) (i + 1) y ys s → Inside R (after r) i p (y ∷ ys) (token_text st (form p y) y ++ s)
  unfolding token_text
  moved_value {r} y g h =
      form_cases (λ f. Inside R (after f) (i + 1) y ys s → Inside R (after r) i p (y ∷ ys) (token_text st f y ++ s)) p y
      (λ e n. rw e (gap_value {us = 0 ∷ []} st sp.gap_after (rw e at n)))
      (λ a b n. own_value {us = y ∷ []} st y a h (λ m v z. sp.own_after z) n)
      (λ a b c n. let e : p + (y - p) ≡ y = omega arith in
      let k : Spellable (dif false) (y - p) = record { short = omega arith; some = λ z. no_way (sym z) } in
      valued {us = y ∷ []} (numeral_spelled (dif false) (y - p) k) (sp.dif_after b (subst (sp.Step false (y - p) p) e sp.up) (record { low = omega arith; high = omega arith })) n)
      (λ a b c n. let e : p - (p - y) ≡ y = omega arith in
      let k : Spellable (dif true) (p - y) = record { short = omega arith; some = λ z. omega arith } in
      valued {us = y ∷ []} (numeral_spelled (dif true) (p - y) k) (sp.dif_after b (subst (sp.Step true (p - y) p) e sp.down) (record { low = omega arith; high = omega arith })) n)

  -- a value after another, as the form writes it
  pub next_value : {r : Form} (y : ℕ) → p < 4294967296 → y < 4294967296 → Inside R (after (form (seen_after st p) y)) (i + 1) y ys s
      → Inside R (after r) i p (y ∷ ys) (token_text st (form (seen_after st p) y) y ++ s)
  next_value {r} y g h =
      by_case (λ t. Inside R (after (form (pick t 0 p) y)) (i + 1) y ys s → Inside R (after r) i p (y ∷ ys) (token_text st (form (pick t 0 p) y) y ++ s)) (in_full st)
      (λ _ n. lone_value y h (λ m v z. sp.own_after z) sp.gap_after n) (λ _ n. moved_value y g h n)

-- ---- the further copies

-- p may be the last of the tokens r: it is missing or not as they say
abbrev pub Last : Form → ℕ → Type 0
Last Own p = 0 < p
Last Gap p = p ≡ 0
Last (By m d) p = 0 < p
Last (Dup b) p = b ≡ true → 0 < p

-- y has the token r after p
again : (r : Form) (p y : ℕ) → Last r p → alike r (form p y) ≡ true → (y ≡ next r p) × Last r y
again Own p y o e = no_way e
again Gap p y o e = form_cases (λ f. alike Gap f ≡ true → (y ≡ p) × (y ≡ 0)) p y (λ a _. (omega arith, a)) (λ _ _ e. no_way e) (λ _ _ _ e. no_way e) (λ _ _ _ e. no_way e) e
again (By false d) p y o e =
    form_cases (λ f. alike (By false d) f ≡ true → (y ≡ p + d) × (0 < y)) p y (λ _ e. no_way e) (λ _ _ e. no_way e)
    (λ a b c e. let z = eqb-true d (y - p) e in (omega arith, a)) (λ _ _ _ e. no_way e) e
again (By true d) p y o e =
    form_cases (λ f. alike (By true d) f ≡ true → (y ≡ p - d) × (0 < y)) p y (λ _ e. no_way e) (λ _ _ e. no_way e)
    (λ _ _ _ e. no_way e) (λ a b c e. let z = eqb-true d (p - y) e in (omega arith, a)) e
again (Dup b) p y o e = no_way e

pub many_le : (r : Form) (p : ℕ) (ys : List ℕ) → many r p ys ≤ length ys
unfolding many
many_le r p [] = lit≤ tt
many_le r p (y ∷ ys) = by_case (λ t. pick t (suc (many r y ys)) 0 ≤ length (y ∷ ys)) (alike r (form p y)) (λ e. omega (arith, many_le r y ys)) (λ e. omega arith)

-- a group has further tokens only where they are of one kind with its first
pub more_many : (st : Style) (r : Form) (p : ℕ) (ys : List ℕ) (n : ℕ) → more_of st r p ys ≡ suc n → many r p ys ≡ suc n
more_many st r p ys n = by_case (λ t. pick t 0 (many r p ys) ≡ suc n → many r p ys ≡ suc n) (in_full st) (λ _ e. absurd (omega arith)) (λ _ e. e)

pub more_le : (st : Style) (r : Form) (p : ℕ) (ys : List ℕ) → more_of st r p ys ≤ length ys
more_le st r p ys = by_case (λ t. pick t 0 (many r p ys) ≤ length ys) (in_full st) (λ _. omega arith) (λ _. many_le r p ys)

pub many_copies : (r : Form) (p : ℕ) (ys : List ℕ) → Last r p → take (many r p ys) ys ≡ copies (many r p ys) r p
unfolding many
many_copies r p [] o = refl
many_copies r p (y ∷ ys) o =
    by_case (λ t. take (pick t (suc (many r y ys)) 0) (y ∷ ys) ≡ copies (pick t (suc (many r y ys)) 0) r p) (alike r (form p y))
    (λ e. let x = again r p y o e in rw (← x.0) (ap (λ (l : List ℕ). y ∷ l) (many_copies r y ys x.1))) (λ e. refl)

pub many_last : (r : Form) (p : ℕ) (ys : List ℕ) → Last r p → Last r (last_or p (take (many r p ys) ys))
unfolding many
many_last r p [] o = o
many_last r p (y ∷ ys) o =
    by_case (λ t. Last r (last_or p (take (pick t (suc (many r y ys)) 0) (y ∷ ys)))) (alike r (form p y))
    (λ e. many_last r y ys (again r p y o e).1) (λ e. o)

-- copies of a difference that are ordinates are steps
many_steps : (m : Bool) (d p : ℕ) (ys : List ℕ) → 0 < p → Small ys
    → sp.Steps m d (many (By m d) p ys) p (copies (many (By m d) p ys) (By m d) p) (last_or p (copies (many (By m d) p ys) (By m d) p))
unfolding many
many_steps m d p [] o h = sp.no_step
many_steps m d p (y ∷ ys) o h =
    by_case (λ t. sp.Steps m d (pick t (suc (many (By m d) y ys)) 0) p (copies (pick t (suc (many (By m d) y ys)) 0) (By m d) p) (last_or p (copies (pick t (suc (many (By m d) y ys)) 0) (By m d) p)))
    (alike (By m d) (form p y))
    (λ e. let x = again (By m d) p y o e in
    rw (← x.0) (sp.one_step (subst (sp.Step m d p) (sym x.0) (step m d p)) (record { low = x.1; high = h.0 }) (many_steps m d y ys x.1 h.1))) (λ e. sp.no_step)

many_own : (p : ℕ) (ys : List ℕ) → many Own p ys ≡ 0
unfolding many
many_own p [] = refl
many_own p (y ∷ ys) = refl

many_dup : (b : Bool) (p : ℕ) (ys : List ℕ) → many (Dup b) p ys ≡ 0
unfolding many
many_dup b p [] = refl
many_dup b p (y ∷ ys) = refl

-- a DUP of n more stands after the token
dup_stands : (r : Form) (p : ℕ) (ys : List ℕ) (n : ℕ) → Last r p → Small ys → many r p ys ≡ suc n
    → sp.Stands (after r) p (times (suc (suc n))) (copies (suc n) r p) (Dup (is_dif r)) (last_or p (copies (suc n) r p))
dup_stands Own p ys n o h e = absurd (omega (arith, many_own p ys))
dup_stands Gap p ys n o h e = rw (gap_copies (suc n) p, (own_copies (suc n) p).1) (sp.dup_gap {n = suc n} (omega arith))
dup_stands (By m d) p ys n o h e = sp.dup_dif {n = suc n} (omega arith) (rw e at (many_steps m d p ys o h))
dup_stands (Dup b) p ys n o h e = absurd (omega (arith, many_dup b p ys))

pub dup_value : {R : Rules} {i : ℕ} {zs s : List ℕ} (r : Form) (p : ℕ) (ys : List ℕ) (n : ℕ) → n < 65536 → Last r p → Small ys → many r p ys ≡ suc n
    → Inside R (after (Dup (is_dif r))) (i + length (copies (suc n) r p)) (last_or p (copies (suc n) r p)) zs s → Inside R (after r) i p (copies (suc n) r p ++ zs) (dup_text (suc n) ++ s)
unfolding dup_text
dup_value r p ys n l o h e q =
    let k : Spellable dup (suc (suc n)) = record { short = omega arith; some = λ z. omega arith } in
    valued (numeral_spelled dup (suc (suc n)) k) (dup_stands r p ys n o h e) q

pub form_last : (p y : ℕ) → Last (form p y) y
form_last p y = form_cases (λ r. Last r y) p y (λ a. a) (λ a _. a) (λ a _ _. a) (λ a _ _. a)
