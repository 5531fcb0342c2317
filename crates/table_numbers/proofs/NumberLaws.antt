-- From the run of digits that was read to the token of a value. No place of the code is named here. Assumes nothing.
use mathlib.Core.Path.{◌≡◌, refl, sym, ap, ◌∙◌}
use mathlib.Core.Bool.{Bool, true, false}
use mathlib.Core.List.{List}
use Prim.Native.Nat.{ℕ, zero, suc, ◌+◌, ◌-◌, ◌*◌, ◌^◌, ◌/◌, ◌%◌, ◌≤◌, ◌<◌}
use native.Mathlib.Omega.{arith}
use native.Mathlib.Numerals.{add-one}
use native.Mathlib.Nat.{pow-le-pow_right, mul-le-mul_left, lt_of_lt_of_le}
use lib.Dec.{ltb, leb, eqb, lit<}
use lib.ListN.{length, get_or, drop}
use borrow.Author.Tests.{eq-eqb, ne_eqb, lt-ltb, le-ltb, lt-leb, le-leb, ltb-true, ltb-false, leb-true, leb-false}
use mathlib.Core.Logic.{◌⊎◌, inl, inr, ⊎_elim}
use Rattle.terms.specs.Logic.{pick, by_case}
use Rattle.alphabet_spec.specs.Kinds.{Lead, sqz, dif, dup, tabs_too, Pseudo, sqz_up, sqz_down, dif_zero, dif_up, dif_down, dup_low, dup_nine}
use Rattle.alphabet_spec.specs.Digits.{long, run, digits}
use Rattle.alphabet_spec.specs.Bytes.{Byte, digit, lead, sign, quest, blank, point, lf, cr, dollar, other, kind}
use Rattle.alphabet_spec.proofs.KindLaws.{Back, kind_back}
use Rattle.alphabet_spec.specs.Entries.{code, entry, entry_at, kind_of}
use Rattle.alphabet_spec.proofs.EntryLaws.{entry_in, at_entry}
use Rattle.alphabet_spec.proofs.DigitLaws.{digit_at}
use Rattle.alphabet.specs.Ran.{AllDigits, Ran, ran_below, first_low, first_there}
use Rattle.table_spec.specs.Values.{Value, own, gap, by, times, value_of, room}
use Rattle.table_spec.specs.Reading.{Tokens, value, fault, Mode, inner, valued, inside, step}
use Rattle.table_lines.specs.Seen.{behind, here, later_seen, later_none, seen_kind, byte_back, not_behind}
use Rattle.table_lines.proofs.HeadLaws.{clear_after, digit_kind, sign_kind, some_more, some_none, run_there}
use Rattle.table_numbers.specs.Numbers.{lead_of, most, value_at, below, Clear, Token, Numbered, Plain}
use Rattle.std.specs.Prelude.{Option, Some, None}

-- ---- entries of pseudo-digits

pub lead_kind : (e : ℕ) → 16 ≤ e → e < 96 → kind_of e ≡ lead (lead_of e) (e % 16)
lead_kind e l h =
    let a = le-ltb e 16 l in
    by_case (λ t. ltb e 32 ≡ t → kind_of e ≡ lead (lead_of e) (e % 16)) (ltb e 32)
    (λ _ x. let y = ltb-true e 32 x in let m : e - 16 ≡ e % 16 = omega arith in rw (a, x, m) refl)
    (λ _ x. by_case (λ t. ltb e 48 ≡ t → kind_of e ≡ lead (lead_of e) (e % 16)) (ltb e 48)
    (λ _ y. let z = ltb-false e 32 x in let w = ltb-true e 48 y in let m : e - 32 ≡ e % 16 = omega arith in rw (a, x, y, m) refl)
    (λ _ y. by_case (λ t. ltb e 64 ≡ t → kind_of e ≡ lead (lead_of e) (e % 16)) (ltb e 64)
    (λ _ z. let v = ltb-false e 48 y in let w = ltb-true e 64 z in let m : e - 48 ≡ e % 16 = omega arith in rw (a, x, y, z, m) refl)
    (λ _ z. by_case (λ t. ltb e 80 ≡ t → kind_of e ≡ lead (lead_of e) (e % 16)) (ltb e 80)
    (λ _ w. let v = ltb-false e 64 z in let u = ltb-true e 80 w in let m : e - 64 ≡ e % 16 = omega arith in rw (a, x, y, z, w, m) refl)
    (λ _ w. let v = ltb-false e 80 w in let m : e - 80 ≡ e % 16 = omega arith in rw (a, x, y, z, w, lt-ltb e 96 h, m) refl) refl) refl) refl) refl

pub lead_small : {k : Lead} {d b : ℕ} → Pseudo k d b → d < 10
lead_small (sqz_up l) = l
lead_small (sqz_down z l) = l
lead_small dif_zero = omega arith
lead_small (dif_up z l) = l
lead_small (dif_down z l) = l
lead_small (dup_low z l) = omega arith
lead_small dup_nine = omega arith

-- how many digits may follow, as the code finds it
pub further_dup : (e : ℕ) → e < 32 → 4 ≡ room (lead_of e) (e % 16)
further_dup e l = rw (lt-ltb e 32 l) refl

none_more : (e d : ℕ) → d ≡ 0 → 32 ≤ e → 0 ≡ room (lead_of e) d
none_more e d z l =
    rw (z, le-ltb e 32 l)
    (by_case (λ t. 0 ≡ room (pick t (dif false) (pick (ltb e 64) (dif true) (pick (ltb e 80) (sqz false) (sqz true)))) 0) (ltb e 48) (λ _. refl)
    (λ _. by_case (λ t. 0 ≡ room (pick t (dif true) (pick (ltb e 80) (sqz false) (sqz true))) 0) (ltb e 64) (λ _. refl)
    (λ _. by_case (λ t. 0 ≡ room (pick t (sqz false) (sqz true)) 0) (ltb e 80) (λ _. refl) (λ _. refl))))

pub further_none : (e : ℕ) → 32 ≤ e → e % 16 ≡ 0 → 0 ≡ room (lead_of e) (e % 16)
further_none e l z = none_more e (e % 16) z l

nine_more : (e d : ℕ) → 32 ≤ e → 9 ≡ room (lead_of e) (suc d)
nine_more e d l =
    rw (le-ltb e 32 l)
    (by_case (λ t. 9 ≡ room (pick t (dif false) (pick (ltb e 64) (dif true) (pick (ltb e 80) (sqz false) (sqz true)))) (suc d)) (ltb e 48) (λ _. refl)
    (λ _. by_case (λ t. 9 ≡ room (pick t (dif true) (pick (ltb e 80) (sqz false) (sqz true))) (suc d)) (ltb e 64) (λ _. refl)
    (λ _. by_case (λ t. 9 ≡ room (pick t (sqz false) (sqz true)) (suc d)) (ltb e 80) (λ _. refl) (λ _. refl))))

pub further_nine : (e : ℕ) → 32 ≤ e → (e % 16 ≡ 0 → ⊥) → 9 ≡ room (lead_of e) (e % 16)
further_nine e l n = let z : e % 16 ≡ suc (e % 16 - 1) = omega (arith, n) in rw z (nine_more e (e % 16 - 1) l)

pub room_small : (e d : ℕ) → room (lead_of e) d ≤ 9
room_small e zero = by_case (λ t. room (pick t dup (pick (ltb e 48) (dif false) (pick (ltb e 64) (dif true) (pick (ltb e 80) (sqz false) (sqz true))))) 0 ≤ 9) (ltb e 32) (λ _. omega arith)
    (λ _. by_case (λ t. room (pick t (dif false) (pick (ltb e 64) (dif true) (pick (ltb e 80) (sqz false) (sqz true)))) 0 ≤ 9) (ltb e 48) (λ _. omega arith)
    (λ _. by_case (λ t. room (pick t (dif true) (pick (ltb e 80) (sqz false) (sqz true))) 0 ≤ 9) (ltb e 64) (λ _. omega arith)
    (λ _. by_case (λ t. room (pick t (sqz false) (sqz true)) 0 ≤ 9) (ltb e 80) (λ _. omega arith) (λ _. omega arith))))
room_small e (suc d) = by_case (λ t. room (pick t dup (pick (ltb e 48) (dif false) (pick (ltb e 64) (dif true) (pick (ltb e 80) (sqz false) (sqz true))))) (suc d) ≤ 9) (ltb e 32) (λ _. omega arith)
    (λ _. by_case (λ t. room (pick t (dif false) (pick (ltb e 64) (dif true) (pick (ltb e 80) (sqz false) (sqz true)))) (suc d) ≤ 9) (ltb e 48) (λ _. omega arith)
    (λ _. by_case (λ t. room (pick t (dif true) (pick (ltb e 80) (sqz false) (sqz true))) (suc d) ≤ 9) (ltb e 64) (λ _. omega arith)
    (λ _. by_case (λ t. room (pick t (sqz false) (sqz true)) (suc d) ≤ 9) (ltb e 80) (λ _. omega arith) (λ _. omega arith))))

pub below_ten : (e : ℕ) → below e ≤ 10000000000
below_ten e =
    by_case (λ t. pick t 10000000000 (pick (ltb e 32) 100000 10000000000) ≤ 10000000000) (ltb e 16) (λ _. omega arith)
    (λ _. by_case (λ t. pick t 100000 10000000000 ≤ 10000000000) (ltb e 32) (λ _. omega arith) (λ _. omega arith))

-- ---- the token of a run

-- a byte that begins a value, and digits
clear_run : (s : List ℕ) (i j : ℕ) → entry_at s i < 160 → AllDigits s (i + 1) j → Clear s i j
clear_run s i j l f k a b =
    by_case (λ t. ltb i k ≡ t → entry_at s k < 160) (ltb i k) (λ _ x. let y = ltb-true i k x in let z = f k (omega arith) b in omega arith)
    (λ _ x. let y = ltb-false i k x in let z : k ≡ i = omega arith in rw z l) refl

-- digits stand after the place i up to j, where the entry f stands
record Followed (s : List ℕ) (i j f : ℕ) : Type 0 where
  low : i < j
  high : j ≤ length s
  all : AllDigits s (i + 1) j
  stands : f ≡ entry_at s j
  clear : (entry_at s i ≡ 112 → ⊥) → behind s j ≡ false

followed : (s : List ℕ) (i : ℕ) {v most w j f : ℕ} → Ran s (i + 1) v most w j f → Followed s i j f
followed s i r = let l = r.low in record { low = omega arith; high = r.high; all = r.all; stands = r.stands; clear = λ nb. clear_after r (not_behind s i nb) }

-- a byte whose step is a value made of the run of digits after it
module _ (s : List ℕ) (i w : ℕ) {j f : ℕ} (c : Byte) (x : ℕ → Value) (h : i < length s) (k : kind_of (entry_at s i) ≡ c) (nb : entry_at s i ≡ 112 → ⊥) (lo : entry_at s i < 160)
    (r : Followed s i j f)
    (g : (K : ℕ → Mode → Tokens) → inside K i (drop (suc i) s) (behind s i) c ≡ valued K i x (pick (ltb f 16) long (run w (j - (i + 1))))) where
  run_long : f < 16 → here s i ≡ fault 5 i
  unfolding step
  run_long l = seen_kind s i (inner (behind s i)) c h k ∙ g _ ∙ rw (lt-ltb f 16 l) refl

  run_token : 16 ≤ f → Token s i (x w) j
  unfolding step
  run_token l =
      let low = r.low in let z : j - (i + 1) ≡ j - suc i = omega arith in
      record {
        low = r.low;
        clear = clear_run s i j lo r.all;
        high = r.high;
        law = seen_kind s i (inner (behind s i)) c h k ∙ g _
            ∙ rw (le-ltb f 16 l, z, r.clear nb) (ap (value i (x w)) (later_seen s (suc i) j (inner false) (omega arith) r.high));
      }

-- ---- a pseudo-digit

module _ (s : List ℕ) (i e : ℕ) (g : e ≡ entry_at s i) (l : 16 ≤ e) (h : e < 96) where
  lead_in : i < length s
  lead_in = entry_in s i (λ x. omega arith)

  lead_here : kind_of (entry_at s i) ≡ lead (lead_of e) (e % 16)
  lead_here = ap kind_of (sym g) ∙ lead_kind e l h

  pub lead_digit : e % 16 < 10
  lead_digit = lead_small (byte_back s i (lead (lead_of e) (e % 16)) lead_in lead_here)

  lead_fits : (m : ℕ) → m ≡ room (lead_of e) (e % 16) → (e % 16 + 1) * 10 ^ m ≤ below e
  lead_fits m z =
      rw (le-ltb e 16 l)
      (by_case (λ t. ltb e 32 ≡ t → (e % 16 + 1) * 10 ^ m ≤ pick t 100000 10000000000) (ltb e 32)
      (λ _ x. let y : m ≡ 4 = z ∙ sym (further_dup e (ltb-true e 32 x)) in let d = lead_digit in rw y (omega arith))
      (λ _ x. let b : m ≤ 9 = rw z (room_small e (e % 16)) in
      let p : 10 ^ m ≤ 10 ^ 9 = pow-le-pow_right (lit< tt) b in let q = mul-le-mul_left (e % 16 + 1) p in let d = lead_digit in omega arith) refl)

  pub packed_fits : (e % 16 + 1) * 10 ^ most e ≤ 10000000000000000000
  packed_fits = let z = lead_fits (most e) refl in let b = below_ten e in omega arith

  valued_at : (v : ℕ) → value_at e v ≡ value_of (lead_of e) v
  valued_at v = rw (le-ltb e 16 l, lt-ltb e 96 h) refl

  module _ {w j f m : ℕ} (z : m ≡ room (lead_of e) (e % 16)) (r : Ran s (i + 1) (e % 16) m w j f) where
    lead_opens : (K : ℕ → Mode → Tokens) → inside K i (drop (suc i) s) (behind s i) (lead (lead_of e) (e % 16)) ≡ valued K i (value_of (lead_of e)) (pick (ltb f 16) long (run w (j - (i + 1))))
    unfolding inside
    lead_opens K = rw (← z, run_there s i r) refl

    pub packed_long : f < 16 → Numbered s i e None
    packed_long = run_long s i w (lead (lead_of e) (e % 16)) (value_of (lead_of e)) lead_in lead_here (λ x. omega arith) (omega arith) (followed s i r) lead_opens

    pub packed_token : 16 ≤ f → Numbered s i e (Some (w, j))
    packed_token k =
        let b = lead_fits m z in let y = ran_below r in
        let x = run_token s i w (lead (lead_of e) (e % 16)) (value_of (lead_of e)) lead_in lead_here (λ x. omega arith) (omega arith) (followed s i r) lead_opens k in
        record { small = lt_of_lt_of_le y b; token = rw (valued_at w) x; digits = r.all; over = rw r.stands at k }

-- ---- a sign

module _ (s : List ℕ) (i e : ℕ) (g : e ≡ entry_at s i) (l : 128 ≤ e) (h : e < 160) {w j f : ℕ} (r : Ran s (i + 1) 0 10 w j f) where
  sign_in : i < length s
  sign_in = entry_in s i (λ x. omega arith)

  sign_here : kind_of (entry_at s i) ≡ sign (leb 144 e)
  sign_here = ap kind_of (sym g) ∙ sign_kind e l h

  own_at : (v : ℕ) → value_at e v ≡ own (leb 144 e) v
  own_at v = rw (le-ltb e 16 (omega arith), le-ltb e 96 (omega arith)) refl

  sign_opens : (j ≡ i + 1 → ⊥) → (K : ℕ → Mode → Tokens) → inside K i (drop (suc i) s) (behind s i) (sign (leb 144 e)) ≡ valued K i (own (leb 144 e)) (pick (ltb f 16) long (run w (j - (i + 1))))
  unfolding inside
  sign_opens n K = let low = r.low in let b : 0 < j - (i + 1) = omega (arith, n) in rw (run_there s i r, some_more (ltb f 16) w (j - (i + 1)) b) refl

  sign_alone : j ≡ i + 1 → Numbered s i e None
  unfolding inside step
  sign_alone n = let z : j - (i + 1) ≡ 0 = omega arith in seen_kind s i (inner (behind s i)) (sign (leb 144 e)) sign_in sign_here ∙ rw (run_there s i r, z, some_none (ltb f 16) w) refl

  signed_long : (j ≡ i + 1 → ⊥) → f < 16 → Numbered s i e None
  signed_long n = run_long s i w (sign (leb 144 e)) (own (leb 144 e)) sign_in sign_here (λ x. omega arith) (omega arith) (followed s i r) (sign_opens n)

  signed_token : (j ≡ i + 1 → ⊥) → 16 ≤ f → Numbered s i e (Some (w, j))
  signed_token n k =
      let y = ran_below r in
      let x = run_token s i w (sign (leb 144 e)) (own (leb 144 e)) sign_in sign_here (λ x. omega arith) (omega arith) (followed s i r) (sign_opens n) k in
      record { small = rw (le-ltb e 16 (omega arith), le-ltb e 32 (omega arith)) (omega arith); token = rw (own_at w) x; digits = r.all; over = rw r.stands at k }

pub signed_number : (s : List ℕ) (i e : ℕ) → e ≡ entry_at s i → 128 ≤ e → e < 160 → (x : Option (ℕ × ℕ)) → Plain s (i + 1) x → Numbered s i e x
signed_number s i e g l h (Some (v, j)) p = let k = p.1 in signed_token s i e g l h p.0 (λ y. omega arith) p.2
signed_number s i e g l h None p = ⊎_elim (sign_alone s i e g l h p.run) (λ y. let z = p.run.full y in signed_long s i e g l h p.run (λ q. omega arith) y) p.wrong

-- ---- the first digit of a run, and those after it

module _ (s : List ℕ) (i : ℕ) {w j f : ℕ} (r : Ran s i 0 10 w j f) (l : entry_at s i < 16) where
  first_followed : Followed s i j f
  unfolding behind
  first_followed =
      let m = first_low s i r l in let d = r.all (j - 1) (omega arith) (omega arith) in
      record {
        low = m;
        high = r.high;
        all = λ k a b. r.all k (omega arith) b;
        stands = r.stands;
        clear = λ _. rw (ne_eqb j 0 (λ y. omega arith)) (ne_eqb (entry_at s (j - 1)) 112 (λ y. omega arith));
      }

-- ---- a digit, after a blank or not

module _ (s : List ℕ) (i e : ℕ) (g : e ≡ entry_at s i) (l : e < 16) where
  pub digit_here : (i < length s) × (e < 10)
  digit_here = let z = digit_at s i (rw g at l) in (z.0, rw (← g) at z.2)

  digit_kind_here : kind_of (entry_at s i) ≡ digit e
  digit_kind_here = ap kind_of (sym g) ∙ digit_kind e l

  behind_is : (t : Bool) → 0 < i → eqb (entry_at s (i - 1)) 112 ≡ t → behind s i ≡ t
  unfolding behind
  behind_is t o n = rw (ne_eqb i 0 (λ x. omega arith)) n

  pub digit_late : 0 < i → (entry_at s (i - 1) ≡ 112 → ⊥) → Numbered s i e None
  unfolding inside step
  digit_late o n = seen_kind s i (inner (behind s i)) (digit e) digit_here.0 digit_kind_here ∙ rw (behind_is false o (ne_eqb (entry_at s (i - 1)) 112 n)) refl

  module _ (o : 0 < i) (n : entry_at s (i - 1) ≡ 112) {w j f : ℕ} (r : Ran s i 0 10 w j f) where
    digit_opens : (K : ℕ → Mode → Tokens) → inside K i (drop (suc i) s) (behind s i) (digit e) ≡ valued K i (own false) (pick (ltb f 16) long (run w (j - (i + 1))))
    unfolding inside
    digit_opens K = rw (behind_is true o (eq-eqb (entry_at s (i - 1)) 112 n), g, first_there s i r (rw g at l)) refl

    plain_long : f < 16 → Numbered s i e None
    plain_long = run_long s i w (digit e) (own false) digit_here.0 digit_kind_here (λ x. omega arith) (omega arith) (first_followed s i r (rw g at l)) digit_opens

    plain_token : 16 ≤ f → Numbered s i e (Some (w, j))
    plain_token k =
        let y = ran_below r in let z = first_followed s i r (rw g at l) in
        let x = run_token s i w (digit e) (own false) digit_here.0 digit_kind_here (λ x. omega arith) (omega arith) z digit_opens k in
        record { small = rw (lt-ltb e 16 l) (omega arith); token = rw (lt-ltb e 16 l) x; digits = z.all; over = rw r.stands at k }

  pub plain_number : 0 < i → entry_at s (i - 1) ≡ 112 → (x : Option (ℕ × ℕ)) → Plain s i x → Numbered s i e x
  plain_number o n (Some (v, j)) p = plain_token o n p.0 p.2
  plain_number o n None p = ⊎_elim (λ y. let z = first_low s i p.run (rw g at l) in absurd (omega arith)) (plain_long o n p.run) p.wrong

-- ---- a missing ordinate

pub gap_token : (s : List ℕ) (i : ℕ) → entry_at s i ≡ 96 → Token s i gap (i + 1)
unfolding step inside
gap_token s i e =
    let h = entry_in s i (λ x. omega arith) in
    record {
      low = omega arith;
      clear = clear_run s i (i + 1) (omega arith) (λ k a b. absurd (omega arith));
      high = omega arith;
      law = seen_kind s i (inner (behind s i)) quest h (ap kind_of e) ∙ rw (not_behind s i (λ x. omega arith), add-one i) (ap (value i gap) (later_none s (suc i) (inner false)));
    }

-- ---- whatever begins a value

pub number_in : (s : List ℕ) (i e : ℕ) → e ≡ entry_at s i → e < 160 → i < length s
number_in s i e g l = entry_in s i (λ x. omega arith)

-- ---- which value it is

pub dup_at : (e v : ℕ) → e / 16 ≡ 1 → (value_at e v ≡ times v) × (below e ≡ 100000)
dup_at e v z =
    let a = le-ltb e 16 (omega arith) in let b = lt-ltb e 32 (omega arith) in
    (rw (a, lt-ltb e 96 (omega arith), b) refl, rw (a, b) refl)

pub dif_at : (e v : ℕ) → 32 ≤ e → e < 64 → value_at e v ≡ by (leb 48 e) v
dif_at e v l h =
    rw (le-ltb e 16 (omega arith), lt-ltb e 96 (omega arith), le-ltb e 32 l)
    (by_case (λ t. ltb e 48 ≡ t → value_of (pick t (dif false) (pick (ltb e 64) (dif true) (pick (ltb e 80) (sqz false) (sqz true)))) v ≡ by (leb 48 e) v) (ltb e 48)
    (λ _ x. rw (lt-leb 48 e (ltb-true e 48 x)) refl) (λ _ x. rw (lt-ltb e 64 h, le-leb 48 e (ltb-false e 48 x)) refl) refl)

-- the sign of an ordinate of its own, by its kind
pub own_digit : (e v : ℕ) → e < 16 → value_at e v ≡ own (eqb (e / 16 % 4) 1) v
own_digit e v l = let z : e / 16 % 4 ≡ 0 = omega arith in rw (lt-ltb e 16 l, z) refl

pub own_sqz : (e v : ℕ) → 64 ≤ e → e < 96 → value_at e v ≡ own (eqb (e / 16 % 4) 1) v
own_sqz e v l h =
    rw (le-ltb e 16 (omega arith), lt-ltb e 96 h, le-ltb e 32 (omega arith), le-ltb e 48 (omega arith), le-ltb e 64 l)
    (by_case (λ t. ltb e 80 ≡ t → value_of (pick t (sqz false) (sqz true)) v ≡ own (eqb (e / 16 % 4) 1) v) (ltb e 80)
    (λ _ x. let y = ltb-true e 80 x in let z : e / 16 % 4 ≡ 0 = omega arith in rw z refl) (λ _ x. let y = ltb-false e 80 x in let z : e / 16 % 4 ≡ 1 = omega arith in rw z refl) refl)

pub own_sign : (e v : ℕ) → 128 ≤ e → e < 160 → value_at e v ≡ own (eqb (e / 16 % 4) 1) v
own_sign e v l h =
    rw (le-ltb e 16 (omega arith), le-ltb e 96 (omega arith))
    (by_case (λ t. leb 144 e ≡ t → own t v ≡ own (eqb (e / 16 % 4) 1) v) (leb 144 e)
    (λ _ x. let y = leb-true 144 e x in let z : e / 16 % 4 ≡ 1 = omega arith in rw z refl) (λ _ x. let y = leb-false 144 e x in let z : e / 16 % 4 ≡ 0 = omega arith in rw z refl) refl)

pub own_at_all : (e v : ℕ) → (e / 16 ≡ 1 → ⊥) → (e / 32 ≡ 1 → ⊥) → e < 160 → (e < 96 ⊎ 128 ≤ e) → value_at e v ≡ own (eqb (e / 16 % 4) 1) v
own_at_all e v a b l (inl h) =
    by_case (λ t. ltb e 16 ≡ t → value_at e v ≡ own (eqb (e / 16 % 4) 1) v) (ltb e 16)
    (λ _ x. own_digit e v (ltb-true e 16 x)) (λ _ x. let y = ltb-false e 16 x in own_sqz e v (omega (arith, a, b)) h) refl
own_at_all e v a b l (inr h) = own_sign e v h l

-- an entry between those of the pseudo-digits and of the signs is a missing mark's or a blank's
code_kinds : (b : ℕ) (c : Byte) → Back tabs_too b c → (code c ≡ 96 → ⊥) → (code c ≡ 112 → ⊥) → code c < 96 ⊎ 128 ≤ code c
code_kinds b (digit d) h m n = inl (let x = h.0 in omega arith)
code_kinds b (lead (sqz true) d) h m n = inl (let x = lead_small h in omega arith)
code_kinds b (lead (sqz false) d) h m n = inl (let x = lead_small h in omega arith)
code_kinds b (lead (dif true) d) h m n = inl (let x = lead_small h in omega arith)
code_kinds b (lead (dif false) d) h m n = inl (let x = lead_small h in omega arith)
code_kinds b (lead dup d) h m n = inl (let x = lead_small h in omega arith)
code_kinds b (sign true) h m n = inr (omega arith)
code_kinds b (sign false) h m n = inr (omega arith)
code_kinds b quest h m n = absurd (m refl)
code_kinds b blank h m n = absurd (n refl)
code_kinds b point h m n = inr (omega arith)
code_kinds b lf h m n = inr (omega arith)
code_kinds b cr h m n = inr (omega arith)
code_kinds b dollar h m n = inr (omega arith)
code_kinds b other h m n = inr (omega arith)

pub kinds : (s : List ℕ) (i e : ℕ) → e ≡ entry_at s i → e < 160 → (e ≡ 112 → ⊥) → (e ≡ 96 → ⊥) → e < 96 ⊎ 128 ≤ e
unfolding entry
kinds s i e g l n m =
    let h = entry_in s i (λ x. omega arith) in let b = get_or s i 0 in let z : e ≡ code (kind tabs_too b) = g ∙ at_entry s i h in
    rw z (code_kinds b (kind tabs_too b) (kind_back tabs_too b) (λ x. m (z ∙ x)) (λ x. n (z ∙ x)))
