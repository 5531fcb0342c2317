-- Heads: from the runs that were read to the head that they make. No place of the code is named here. Assumes nothing.
use mathlib.Core.Path.{◌≡◌, refl, sym, ap, ◌∙◌, subst}
use mathlib.Core.Bool.{Bool, true, false}
use mathlib.Core.List.{List}
use mathlib.Core.Logic.{◌⊎◌, ⊎_elim}
use Prim.Native.Nat.{ℕ, zero, suc, ◌+◌, ◌-◌, ◌*◌, ◌^◌, ◌≤◌, ◌<◌}
use native.Mathlib.Omega.{arith}
use native.Mathlib.Numerals.{add-one}
use native.Mathlib.Nat.{mul-lt-mul_of_pos_right, mul_assoc}
use lib.Dec.{ltb, leb, lit<, lit≤}
use lib.ListN.{length, get_or, drop}
use lib.Seq.{drop-drop}
use borrow.Author.Tests.{ne_eqb, lt-ltb, le-ltb, lt-leb, le-leb, ltb-true, ltb-false}
use Rattle.terms.specs.Logic.{pick, by_case}
use Rattle.alphabet_spec.specs.Digits.{long, run, digits, some}
use Rattle.alphabet_spec.specs.Bytes.{Byte, digit, lead, sign, quest, blank, point, lf, cr, dollar, other, kind}
use Rattle.alphabet_spec.specs.Entries.{code, entry_at, entry, kind_of}
use Rattle.alphabet_spec.proofs.EntryLaws.{at_entry, at_kind}
use Rattle.alphabet_spec.specs.Kinds.{tabs_too}
use Rattle.alphabet_spec.proofs.KindLaws.{Back, kind_back}
use Rattle.alphabet.specs.Ran.{Ran, ran_is, ran_below, first_low, first_there}
use Rattle.table_spec.specs.Values.{headed_at}
use Rattle.table_spec.specs.Reading.{Tokens, head, fault, Mode, fresh, inner, Rest, starts, unit, scaled, pointed, thousandths, headed, opening, step}
use Rattle.table_lines.specs.Seen.{behind, later_seen, seen_kind, seen_step, not_behind}
use Rattle.table_lines.specs.Ends.{LineOpens}
use Rattle.table_lines.specs.Heads.{Scaled, Pointed, Topped, Headed}
use Rattle.table_lines.proofs.LineEnds.{starts_not, starts_kind}
use Rattle.std.specs.Prelude.{Option, Some, None}
use Rattle.table_lines.specs.declared.HeadRead.{HeadRead}
use Rattle.table_lines.specs.Parts.{head_with}

-- the place after a run, with no blank behind it; after one digit or more, whatever stood before them
clear_run : {s : List ℕ} {i v most w j e : ℕ} → Ran s i v most w j e → i < j → behind s j ≡ false
unfolding behind
clear_run {s} {j = j} r l = let d = r.all (j - 1) (omega arith) (omega arith) in rw (ne_eqb j 0 (λ y. omega arith)) (ne_eqb (entry_at s (j - 1)) 112 (λ y. omega arith))

pub clear_after : {s : List ℕ} {i v most w j e : ℕ} → Ran s i v most w j e → behind s i ≡ false → behind s j ≡ false
clear_after {s} {i} {v} {most} {w} {j} {e} r h =
    by_case (λ t. ltb i j ≡ t → behind s j ≡ false) (ltb i j)
    (λ _ x. clear_run r (ltb-true i j x))
    (λ _ x. let l = ltb-false i j x in let k = r.low in let z : j ≡ i = omega arith in rw z h) refl

-- ---- after the whole number

-- three digits in all
powers : (k : ℕ) → k ≤ 3 → (10 ^ k * unit k ≡ 1000) × (0 < unit k) × (unit k ≤ 1000)
powers zero h = (refl, lit< tt, lit≤ tt)
powers (suc zero) h = (refl, lit< tt, lit≤ tt)
powers (suc (suc zero)) h = (refl, lit< tt, lit≤ tt)
powers (suc (suc (suc zero))) h = (refl, lit< tt, lit≤ tt)
powers (suc (suc (suc (suc k)))) h = absurd (omega arith)

pub whole_only : {s : List ℕ} {i w e : ℕ} (minus : Bool) → i ≤ length s → e ≡ entry_at s i → w < 10000000 → (e ≡ 160 → ⊥)
    → Pointed s i w minus (Some (head_with (headed_at minus (w * 1000)) 1000 i))
unfolding pointed entry kind
whole_only {s} {i} {w} {e} minus h g l n =
    let z : i - i ≡ 0 = omega arith in
    record {
      low = omega arith;
      high = h;
      clear = λ x. x;
      size = w * 1000;
      small = omega arith;
      is = refl;
      coarsest = omega arith;
      law = λ m. let y : m + 0 ≡ m = omega arith in rw (starts_not s i 46 (λ x. n (g ∙ x)), z, y) refl;
    }

module _ {s : List ℕ} (i : ℕ) {w f j e : ℕ} (g : entry_at s i ≡ 160) (r : Ran s (i + 1) w 3 f j e) where
  point_starts : starts 46 (drop i s) ≡ true
  point_starts = starts_kind s i 46 160 point g (omega arith) refl (λ x. x)

  after_point : (n : ℕ) → pointed (drop i s) w n ≡ scaled n (pick (ltb e 16) long (run f (j - (i + 1))))
  unfolding pointed
  after_point n = rw (point_starts, drop-drop 1 i s) (ap (scaled n) (ran_is r))

  pub fraction_long : (minus : Bool) → e < 16 → Pointed s i w minus None
  unfolding scaled
  fraction_long minus l n = after_point n ∙ rw (lt-ltb e 16 l) refl

  pub fraction_small : w < 10000000 → f * unit (j - (i + 1)) ≤ 9999999999
  fraction_small l =
      let few = r.few in let low = r.low in let b = r.below in
      let k = j - (i + 1) in
      let x : k ≤ 3 = omega arith in
      let p : (w + 1) * 10 ^ k * unit k ≡ (w + 1) * 1000 = mul_assoc (w + 1) (10 ^ k) (unit k) ∙ ap (λ (z : ℕ). (w + 1) * z) (powers k x).0 in
      let q = mul-lt-mul_of_pos_right b (powers k x).1 in
      omega arith

  pub fraction_read : (minus : Bool) → w < 10000000 → 16 ≤ e → Pointed s i w minus (Some (head_with (headed_at minus (f * unit (j - (i + 1)))) (unit (j - (i + 1))) j))
  unfolding scaled
  fraction_read minus l h =
      let low = r.low in let few = r.few in
      record {
        low = omega arith;
        high = r.high;
        clear = λ x. clear_after r (not_behind s i (λ y. omega arith));
        size = f * unit (j - (i + 1));
        small = fraction_small l;
        is = refl;
        coarsest = (powers (j - (i + 1)) (omega arith)).2;
        law = λ n. let z : suc (n + (j - (i + 1))) ≡ n + (j - i) = omega arith in after_point n ∙ rw (le-ltb e 16 h, z) refl;
      }

-- ---- the head

small_head : (minus : Bool) (g h : ℕ) → h ≡ headed_at minus g → g ≤ 9999999999 → h < 20000000000
small_head true g h e l = omega arith
small_head false g h e l = omega arith

-- a head that begins with a digit, or with a sign: what its whole number and what follows make
module _ (s : List ℕ) (i w j e : ℕ) (minus : Bool) (c : Byte) (h : i < length s) (k : kind_of (entry_at s i) ≡ c) (low : i < j) (cl : behind s j ≡ false)
    (f : (K : ℕ → Mode → Tokens) → opening K i (drop (suc i) s) c ≡ headed K i minus (thousandths (drop (suc i) s) (pick (ltb e 16) long (run w (j - (i + 1)))))) where
  pub no_head : e < 16 → Headed s i None
  unfolding step thousandths
  no_head l = seen_kind s i fresh c h k ∙ f _ ∙ rw (lt-ltb e 16 l) refl

  thousandths_at : 16 ≤ e → thousandths (drop (suc i) s) (pick (ltb e 16) long (run w (j - (i + 1)))) ≡ pointed (drop j s) w (j - (i + 1))
  unfolding thousandths
  thousandths_at l = let z : suc i + (j - (i + 1)) ≡ j = omega arith in rw (le-ltb e 16 l, drop-drop (j - (i + 1)) (suc i) s, z) refl

  pub no_fraction : 16 ≤ e → Pointed s j w minus None → Headed s i None
  unfolding step
  no_fraction l p = seen_kind s i fresh c h k ∙ f _ ∙ rw (thousandths_at l, p (j - (i + 1))) refl

  -- its bytes, whatever follows them
  head_bytes : {x u n : ℕ} → 16 ≤ e → Scaled s j w minus x u n
      → (K : Rest) → opening K i (drop (suc i) s) (kind tabs_too (get_or s i 0)) ≡ head i x u (K (n - suc i) (inner false))
  head_bytes {x} {u} {n} l p K =
      let a = p.low in let z : j - (i + 1) + (n - j) ≡ n - suc i = omega arith in
      rw (at_kind s i h ∙ k) (f K ∙ rw (thousandths_at l, p.law (j - (i + 1)), z, ← p.is) refl)

  pub topped : {x u n : ℕ} → 16 ≤ e → Scaled s j w minus x u n → Topped s i x u n
  unfolding step
  topped {x} {u} {n} l p =
      let a = p.low in let b = p.small in
      record {
        low = omega arith;
        high = p.high;
        clear = p.clear cl;
        small = small_head minus p.size x p.is b;
        coarsest = p.coarsest;
        bytes = head_bytes l p;
        law = seen_step s i fresh h ∙ head_bytes l p _ ∙ ap (head i x u) (later_seen s (suc i) n (inner false) (omega arith) p.high);
      }

  -- whatever follows the whole number
  pub headed_by : 16 ≤ e → (x : Option HeadRead) → Pointed s j w minus x → Headed s i x
  headed_by l (Some y) p = topped l p
  headed_by l None p = no_fraction l p

-- ---- the first byte of a line

pub digit_kind : (e : ℕ) → e < 16 → kind_of e ≡ digit e
digit_kind e l = rw (lt-ltb e 16 l) refl

pub sign_kind : (e : ℕ) → 128 ≤ e → e < 160 → kind_of e ≡ sign (leb 144 e)
sign_kind e l h =
    let z : pick (ltb e 144) (sign false) (pick (ltb e 160) (sign true) other) ≡ sign (leb 144 e) =
    by_case (λ t. ltb e 144 ≡ t → pick t (sign false) (pick (ltb e 160) (sign true) other) ≡ sign (leb 144 e)) (ltb e 144)
    (λ _ x. let y = ltb-true e 144 x in rw (lt-leb 144 e y) refl) (λ _ x. rw (lt-ltb e 160 h, le-leb 144 e (ltb-false e 144 x)) refl) refl in
    rw (
      le-ltb e 16 (omega arith),
      le-ltb e 32 (omega arith),
      le-ltb e 48 (omega arith),
      le-ltb e 64 (omega arith),
      le-ltb e 80 (omega arith),
      le-ltb e 96 (omega arith),
      le-ltb e 112 (omega arith),
      le-ltb e 128 l,
      lt-ltb e 160 h,
    ) (rw (lt-ltb e 160 h) at z)

-- digits after a sign: at least one
pub some_more : (t : Bool) (w n : ℕ) → 0 < n → some (pick t long (run w n)) ≡ pick t long (run w n)
some_more true w n h = refl
some_more false w zero h = absurd (omega arith)
some_more false w (suc n) h = refl

pub some_none : (t : Bool) (w : ℕ) → some (pick t long (run w 0)) ≡ long
some_none true w = refl
some_none false w = refl

-- the run that was read after the byte at the place i
pub run_there : (s : List ℕ) (i : ℕ) {v most w j e : ℕ} → Ran s (i + 1) v most w j e → digits (drop (suc i) s) most v 0 ≡ pick (ltb e 16) long (run w (j - (i + 1)))
run_there s i {v} {most} {w} {j} {e} r = subst (λ (k : ℕ). digits (drop k s) most v 0 ≡ pick (ltb e 16) long (run w (j - (i + 1)))) (add-one i) (ran_is r)

module _ (s : List ℕ) (i : ℕ) {w j x : ℕ} where
  digit_opens : (e : ℕ) → e ≡ entry_at s i → e < 16 → Ran s i 0 7 w j x
      → (K : ℕ → Mode → Tokens) → opening K i (drop (suc i) s) (digit e) ≡ headed K i false (thousandths (drop (suc i) s) (pick (ltb x 16) long (run w (j - (i + 1)))))
  unfolding opening
  digit_opens e g l r K = rw (g, first_there s i r (rw g at l)) refl

  sign_opens : (m : Bool) → Ran s (i + 1) 0 7 w j x → (j ≡ i + 1 → ⊥)
      → (K : ℕ → Mode → Tokens) → opening K i (drop (suc i) s) (sign m) ≡ headed K i m (thousandths (drop (suc i) s) (pick (ltb x 16) long (run w (j - (i + 1)))))
  unfolding opening
  sign_opens m r n K = let low = r.low in let l : 0 < j - (i + 1) = omega (arith, n) in rw (run_there s i r, some_more (ltb x 16) w (j - (i + 1)) l) refl

  sign_alone : (e : ℕ) → LineOpens s i e → 128 ≤ e → Ran s (i + 1) 0 7 w j x → j ≡ i + 1 → Headed s i None
  unfolding opening step thousandths
  sign_alone e o l r n =
      let z : j - (i + 1) ≡ 0 = omega arith in
      seen_kind s i fresh (sign (leb 144 e)) o.inside (ap kind_of (sym o.stands) ∙ sign_kind e l o.before_point) ∙ rw (run_there s i r, z, some_none (ltb x 16) w) refl

-- a byte that begins a value and no head
opens_not : (K : ℕ → Mode → Tokens) (a : ℕ) (t : List ℕ) (b : ℕ) (c : Byte) → Back tabs_too b c → 16 ≤ code c → code c < 128 → (code c ≡ 112 → ⊥) → opening K a t c ≡ fault 4 a
unfolding opening
opens_not K a t b (digit d) h l k n = absurd (omega (arith, h.0))
opens_not K a t b (lead x d) h l k n = refl
opens_not K a t b (sign true) h l k n = absurd (omega arith)
opens_not K a t b (sign false) h l k n = absurd (omega arith)
opens_not K a t b quest h l k n = refl
opens_not K a t b blank h l k n = absurd (n refl)
opens_not K a t b point h l k n = absurd (omega arith)
opens_not K a t b lf h l k n = absurd (omega arith)
opens_not K a t b cr h l k n = absurd (omega arith)
opens_not K a t b dollar h l k n = absurd (omega arith)
opens_not K a t b other h l k n = absurd (omega arith)

pub value_first : (s : List ℕ) (i e : ℕ) → LineOpens s i e → 16 ≤ e → e < 128 → Headed s i None
unfolding step entry
value_first s i e o l k =
    let b = get_or s i 0 in let g = o.stands in let z = at_entry s i o.inside in
    seen_step s i fresh o.inside ∙ opens_not _ i _ b (kind tabs_too b) (kind_back tabs_too b) (omega arith) (omega arith) (λ x. o.no_blank (g ∙ z ∙ x))

-- ---- a head that begins with a digit; with a sign

no_blank_here : {s : List ℕ} {i e : ℕ} → LineOpens s i e → entry_at s i ≡ 112 → ⊥
no_blank_here o y = o.no_blank (o.stands ∙ y)

module _ (s : List ℕ) (i e : ℕ) {w j x : ℕ} (o : LineOpens s i e) where
  module _ (l : e < 16) (r : Ran s i 0 7 w j x) where
    digit_low : i < j
    digit_low = first_low s i r (rw o.stands at l)

    digit_long : x < 16 → Headed s i None
    digit_long =
        no_head s i w j x false (digit e) o.inside (ap kind_of (sym o.stands) ∙ digit_kind e l) digit_low (clear_run r digit_low) (digit_opens s i e o.stands l r)

    digit_headed : 16 ≤ x → (y : Option HeadRead) → Pointed s j w false y → Headed s i y
    digit_headed =
        headed_by s i w j x false (digit e) o.inside (ap kind_of (sym o.stands) ∙ digit_kind e l) digit_low (clear_run r digit_low) (digit_opens s i e o.stands l r)

  module _ (l : 128 ≤ e) (r : Ran s (i + 1) 0 7 w j x) (m : j ≡ i + 1 → ⊥) where
    sign_low : i < j
    sign_low = let a = r.low in omega arith

    sign_clear : behind s j ≡ false
    sign_clear = clear_after r (not_behind s i (no_blank_here o))

    sign_long : x < 16 → Headed s i None
    sign_long =
        no_head s i w j x (leb 144 e) (sign (leb 144 e)) o.inside (ap kind_of (sym o.stands) ∙ sign_kind e l o.before_point) sign_low sign_clear (sign_opens s i (leb 144 e) r m)

    sign_headed : 16 ≤ x → (y : Option HeadRead) → Pointed s j w (leb 144 e) y → Headed s i y
    sign_headed =
        headed_by s i w j x (leb 144 e) (sign (leb 144 e)) o.inside (ap kind_of (sym o.stands) ∙ sign_kind e l o.before_point) sign_low sign_clear (sign_opens s i (leb 144 e) r m)

-- ---- whatever begins a head

-- where its digits begin: at the place itself, or after a sign
abbrev pub From : ℕ → ℕ → ℕ → Type 0
From i e from = ((e < 128) × (from ≡ i)) ⊎ ((128 ≤ e) × (from ≡ i + 1))

module _ (s : List ℕ) (i e : ℕ) {from w j x : ℕ} (o : LineOpens s i e) (k : From i e from) (r : Ran s from 0 7 w j x) where
  pub head_small : w < 10000000
  head_small = let b = ran_below r in omega arith

  digit_run : from ≡ i → Ran s i 0 7 w j x
  digit_run q = rw q at r

  sign_run : from ≡ i + 1 → Ran s (i + 1) 0 7 w j x
  sign_run q = rw q at r

  digit_first : from ≡ i → i < j → e < 16
  digit_first q l = let d = (digit_run q).all i (omega arith) l in let g = o.stands in omega arith

  pub head_long : x < 16 → Headed s i None
  head_long h =
      ⊎_elim (λ q. let a = q.1 in let z = r.full h in digit_long s i e o (digit_first a (omega arith)) (digit_run a) h)
      (λ q. let a = q.1 in let z = r.full h in sign_long s i e o q.0 (sign_run a) (λ y. omega arith) h) k

  pub head_alone : j ≡ from → Headed s i None
  head_alone n =
      ⊎_elim (λ q. let a = q.1 in
      by_case (λ t. ltb e 16 ≡ t → Headed s i None) (ltb e 16) (λ _ y. let m = digit_low s i e o (ltb-true e 16 y) (digit_run a) in absurd (omega arith))
      (λ _ y. value_first s i e o (ltb-false e 16 y) q.0) refl)
      (λ q. let a = q.1 in sign_alone s i e o q.0 (sign_run a) (omega arith)) k

  pub head_headed : 16 ≤ x → (j ≡ from → ⊥) → (y : Option HeadRead) → Pointed s j w (leb 144 e) y → Headed s i y
  head_headed h n y p =
      ⊎_elim (λ q. let a = q.1 in let b = r.low in let l = q.0 in
      digit_headed s i e o (digit_first a (omega (arith, n))) (digit_run a) h y (rw (lt-leb 144 e (omega arith)) at p))
      (λ q. let a = q.1 in sign_headed s i e o q.0 (sign_run a) (λ z. n (z ∙ sym a)) h y p) k
