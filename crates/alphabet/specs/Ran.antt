-- What reading a run of digits ensures, and what that says of the run. Assumes nothing.
use Rattle.std.specs.Prelude.{◌≡◌, refl, true, false, List, [], ◌∷◌, ◌⊎◌, ℕ, zero, suc, ◌+◌, ◌-◌, ◌*◌, ◌^◌, ◌≤◌, ◌<◌, ltb, length, drop}
use Rattle.std.proofs.Common.{sym, ap, ◌∙◌, ⊎_elim, arith, add-one, add-zero, zero-add, add-suc, suc-add, pow-suc, mul-one, mul-le-mul_left, mul-le-mul_right, mul_assoc, lit<, ltb-true, ltb-false}
use Rattle.std.proofs.Math.Nat.{pow-zero, pow-le-pow_right}
use Rattle.terms.specs.Logic.{pick, by_case}
use Rattle.alphabet_spec.specs.Digits.{within, Run, long, run, digits}
use Rattle.alphabet_spec.specs.Entries.{entry_at}
use Rattle.alphabet_spec.proofs.EntryLaws.{entry_in}
use Rattle.alphabet_spec.proofs.DigitLaws.{digits_stop, digits_on, digit_at}
use Rattle.alphabet.specs.Standing.{standing, within_in, digit_stands, digit_stands_not}

-- where a run of at most `most` digits from the place i on ends at the latest, in a text of n bytes
pub record RunEnd (n i most j : ℕ) : Type 0 where
  pub low : i ≤ j
  pub high : j ≤ n
  pub few : j ≤ i + most
  pub is : j ≡ n ⊎ j ≡ i + most

-- reading on from the place i with the number v is reading on from the place j with the number w, after j - i more digits
abbrev pub Onward : List ℕ → ℕ → ℕ → ℕ → ℕ → Type 0
Onward s i v j w = (m n : ℕ) → digits (drop i s) (m + (j - i)) v n ≡ digits (drop j s) m w (n + (j - i))

-- each byte from the place i to the place j is a digit
abbrev pub AllDigits : List ℕ → ℕ → ℕ → Type 0
AllDigits s i j = (k : ℕ) → i ≤ k → k < j → entry_at s k < 16

-- from the place i, after the number v, at most `most` digits: the number w, the place j after them, and the entry e that stands there
pub record Ran (s : List ℕ) (i v most w j e : ℕ) : Type 0 where
  pub low : i ≤ j
  pub high : j ≤ length s
  pub few : j ≤ i + most
  pub stands : e ≡ entry_at s j
  pub below : w < (v + 1) * 10 ^ (j - i)
  pub all : AllDigits s i j
  pub full : e < 16 → j ≡ i + most
  pub onward : Onward s i v j w

-- what the run says: too long where a digit still stands there
pub ran_is : {s : List ℕ} {i v most w j e : ℕ} → Ran s i v most w j e → digits (drop i s) most v 0 ≡ pick (ltb e 16) long (run w (j - i))
ran_is {s} {i} {v} {most} {w} {j} {e} r =
    let a = r.low in let b = r.few in let x = r.stands in
    let f : most - (j - i) + (j - i) ≡ most = omega arith in
    let g : digits (drop i s) most v 0 ≡ digits (drop j s) (most - (j - i)) w (0 + (j - i)) = rw f at (r.onward (most - (j - i)) 0) in
    by_case (λ t. ltb e 16 ≡ t → digits (drop i s) most v 0 ≡ pick t long (run w (j - i))) (ltb e 16)
    (λ _ h. let l = ltb-true e 16 h in let y = r.full l in let k : most - (j - i) ≡ 0 = omega arith in
    g ∙ rw (k, digits_on s j 0 w (0 + (j - i)) (omega arith)) refl)
    (λ _ h. let l = ltb-false e 16 h in g ∙ digits_stop s j (most - (j - i)) w (0 + (j - i)) (omega arith) ∙ ap (run w) (zero-add (j - i)))
    refl

-- with a literal bound on the digits: the number is below it
pub ran_below : {s : List ℕ} {i v most w j e : ℕ} → Ran s i v most w j e → w < (v + 1) * 10 ^ most
ran_below {s} {i} {v} {most} {w} {j} {e} r =
    let b = r.few in let l : j - i ≤ most = omega arith in
    let p : 10 ^ (j - i) ≤ 10 ^ most = pow-le-pow_right (lit< tt) l in
    let q = mul-le-mul_left (v + 1) p in
    let x = r.below in omega arith

-- ---- the loop

scaled : (a p : ℕ) → a * (p * 10) ≡ a * p * 10
scaled a p = sym (mul_assoc a p 10)

-- so far: the number w, and the place j
pub record Running (s : List ℕ) (i v most w j : ℕ) : Type 0 where
  pub low : i ≤ j
  pub high : j ≤ length s
  pub few : j ≤ i + most
  pub below : w < (v + 1) * 10 ^ (j - i)
  pub all : AllDigits s i j
  pub onward : Onward s i v j w

pub start : (s : List ℕ) (i v most : ℕ) → i ≤ length s → Running s i v most v i
start s i v most l =
    let z : i - i ≡ 0 = omega arith in
    record { low = omega arith; high = l; few = omega arith; below = rw z (omega arith); all = λ k a b. absurd (omega arith); onward = λ m n. rw (z, add-zero m, add-zero n) refl }

-- the number that a further digit makes still fits
pub fits : {s : List ℕ} {i v most w j : ℕ} → Running s i v most w j → j - i < most → (v + 1) * 10 ^ most ≤ 10000000000000000000 → w * 10 + 10 ≤ 10000000000000000000
fits {s} {i} {v} {most} {w} {j} r h b =
    let l : suc (j - i) ≤ most = omega arith in
    let p : 10 ^ suc (j - i) ≤ 10 ^ most = pow-le-pow_right (lit< tt) l in
    let q = mul-le-mul_left (v + 1) p in
    let y : (v + 1) * 10 ^ suc (j - i) ≡ (v + 1) * 10 ^ (j - i) * 10 = rw (pow-suc 10 (j - i)) (scaled (v + 1) (10 ^ (j - i))) in
    let x = r.below in omega arith

one_further : (s : List ℕ) (i j : ℕ) → AllDigits s i j → entry_at s j < 16 → AllDigits s i (j + 1)
one_further s i j f h k a b =
    by_case (λ t. ltb k j ≡ t → entry_at s k < 16) (ltb k j) (λ _ e. f k a (ltb-true k j e))
    (λ _ e. let l = ltb-false k j e in let z : k ≡ j = omega arith in rw z h) refl

-- one digit more
pub step : {s : List ℕ} {i v most w j e : ℕ} → Running s i v most w j → e ≡ entry_at s j → e < 16 → j - i < most → Running s i v most (w * 10 + e) (j + 1)
step {s} {i} {v} {most} {w} {j} {e} r g f k =
    let h : entry_at s j < 16 = omega arith in
    let d = digit_at s j h in
    let l = r.low in let x = d.2 in let b = r.below in
    let a : j + 1 - i ≡ suc (j - i) = omega arith in
    let y : (v + 1) * 10 ^ suc (j - i) ≡ (v + 1) * 10 ^ (j - i) * 10 = rw (pow-suc 10 (j - i)) (scaled (v + 1) (10 ^ (j - i))) in
    record {
      low = omega arith;
      high = let z = d.0 in omega arith;
      few = omega arith;
      below = rw a (omega arith);
      all = one_further s i j r.all h;
      onward = λ m n. rw (a, add-suc m (j - i), ← suc-add m (j - i)) (r.onward (suc m) n ∙ digits_on s j (suc m) w (n + (j - i)) h ∙ rw (g, add-one j, add-suc n (j - i)) refl);
    }

-- the run has ended: no digit stands there, or as many as may have been taken
pub stop : {s : List ℕ} {i v most w j e : ℕ} → Running s i v most w j → e ≡ entry_at s j → (e < 16 → j ≡ i + most) → Ran s i v most w j e
stop r h f = record { low = r.low; high = r.high; few = r.few; stands = h; below = r.below; all = r.all; full = f; onward = r.onward }

-- a digit b stands there, and may be taken: what the code's sums need, and the run with it
pub record Taken (s : List ℕ) (i v most w j b : ℕ) : Type 0 where
  pub digit : 48 ≤ b
  pub fits : w * 10 + 10 ≤ 10000000000000000000
  pub small : b - 48 < 10
  pub inside : j < length s
  pub on : Running s i v most (w * 10 + (b - 48)) (j + 1)

pub taken : {s : List ℕ} {i v most w j b : ℕ} → Running s i v most w j → b ≡ standing s j → within 48 10 b ≡ true → j - i < most → (v + 1) * 10 ^ most ≤ 10000000000000000000
    → Taken s i v most w j b
taken {s} {j = j} {b = b} r g t k m =
    let x = digit_stands s j (rw g at t) in let d = digit_at s j x.0 in let e : b - 48 ≡ entry_at s j = rw g (sym x.1) in let y = within_in 48 10 b t in
    record { digit = y.0; fits = fits r k m; small = let z = y.1 in omega arith; inside = d.0; on = step r e (omega (arith, d.2)) k }

-- no digit stands there: the run has ended
pub ended : {s : List ℕ} {i v most w j b : ℕ} → Running s i v most w j → b ≡ standing s j → within 48 10 b ≡ false → Ran s i v most w j (entry_at s j)
ended {s} {j = j} r g t = stop r refl (λ h. absurd (let x = digit_stands_not s j (rw g at t) in omega arith))

-- as far as it may go at the latest: where the text ends no digit stands
pub run_out : {s : List ℕ} {i v most w j : ℕ} → Running s i v most w j → RunEnd (length s) i most j → Ran s i v most w j (entry_at s j)
run_out {s} {j = j} r e =
    stop r refl (λ h. ⊎_elim (λ x. let y = entry_in s j (λ z. omega arith) in absurd (omega arith)) (λ x. x) e.is)

-- ---- a short run

-- a run that ended by itself is one under any limit that it keeps
pub ran_within : {s : List ℕ} {i v most w j e : ℕ} (n : ℕ) → Ran s i v most w j e → 16 ≤ e → j ≤ i + n → Ran s i v n w j e
ran_within n r l h = record { low = r.low; high = r.high; few = h; stands = r.stands; below = r.below; all = r.all; full = λ x. absurd (omega arith); onward = r.onward }

power_sum : (m n : ℕ) → 10 ^ (m + n) ≡ 10 ^ m * 10 ^ n
power_sum m zero = rw (add-zero m, pow-zero 10) (sym (mul-one (10 ^ m)))
power_sum m (suc n) = rw (add-suc m n, pow-suc 10 (m + n), pow-suc 10 n, power_sum m n) (mul_assoc (10 ^ m) (10 ^ n) 10)

-- a run that has come so far, and a further one from there on: one run of as many digits as both may have
pub joined : {s : List ℕ} {i v most w j n x k e : ℕ} → Running s i v most w j → Ran s j w n x k e → j + n ≡ i + most → Ran s i v most x k e
joined {s} {i} {v} {most} {w} {j} {n} {x} {k} {e} g r h =
    let a = g.low in let b = r.low in let c = r.few in let y = r.below in let z = g.below in
    let p : k - i ≡ (j - i) + (k - j) = omega arith in
    let q = mul-le-mul_right (10 ^ (k - j)) z in
    let t : (v + 1) * 10 ^ (k - i) ≡ (v + 1) * 10 ^ (j - i) * 10 ^ (k - j) = rw (p, power_sum (j - i) (k - j)) (sym (mul_assoc (v + 1) (10 ^ (j - i)) (10 ^ (k - j)))) in
    record {
      low = omega arith;
      high = r.high;
      few = omega arith;
      stands = r.stands;
      below = omega arith;
      all = λ m l o. by_case (λ u. ltb m j ≡ u → entry_at s m < 16) (ltb m j) (λ _ d. g.all m l (ltb-true m j d)) (λ _ d. r.all m (ltb-false m j d) o) refl;
      full = λ l. let d = r.full l in omega arith;
      onward = λ m o. let u : m + (k - i) ≡ m + (k - j) + (j - i) = omega arith in let d : o + (k - i) ≡ o + (j - i) + (k - j) = omega arith in
          rw (u, d) (g.onward (m + (k - j)) o ∙ r.onward m (o + (j - i)));
    }

-- at most three digits from the place i on, after the number v, which does not fall: the number w, the place j after them, and the byte b that stands there
pub record Few (s : List ℕ) (i v w j b : ℕ) : Type 0 where
  pub run : Ran s i v 3 w j (entry_at s j)
  pub stands : b ≡ standing s j
  pub grows : v ≤ w

-- ---- the first digit of a run, and those after it

-- a run with one digit fewer
abbrev less : Run → Run
less long = long
less (run v n) = run v (n - 1)

one_less : (v n : ℕ) → less (run v (suc n)) ≡ run v n
one_less v n = let z : suc n - 1 ≡ n = omega arith in ap (run v) z

counted : (s : List ℕ) (m v n : ℕ) → less (digits s m v (suc n)) ≡ digits s m v n
unfolding digits
counted [] m v n = one_less v n
counted (b ∷ s) zero v n = by_case (λ t. less (pick t long (run v (suc n))) ≡ pick t long (run v n)) (within 48 10 b) (λ _. refl) (λ _. one_less v n)
counted (b ∷ s) (suc m) v n =
    by_case (λ t. less (pick t (digits s m (v * 10 + (b - 48)) (suc (suc n))) (run v (suc n))) ≡ pick t (digits s m (v * 10 + (b - 48)) (suc n)) (run v n)) (within 48 10 b)
    (λ _. counted s m (v * 10 + (b - 48)) (suc n)) (λ _. one_less v n)

-- a run that begins with a digit, and may have m more
module _ (s : List ℕ) (i : ℕ) {m w j e : ℕ} (r : Ran s i 0 (suc m) w j e) (l : entry_at s i < 16) where
  pub first_low : i < j
  first_low = by_case (λ t. ltb i j ≡ t → i < j) (ltb i j) (λ _ x. ltb-true i j x)
      (λ _ x. let y = ltb-false i j x in let b = r.low in let z : j ≡ i = omega arith in let k : e < 16 = rw (r.stands, z) l in let f = r.full k in absurd (omega arith)) refl

  pub first_there : digits (drop (suc i) s) m (entry_at s i) 0 ≡ pick (ltb e 16) long (run w (j - (i + 1)))
  first_there =
      let z : j - i - 1 ≡ j - (i + 1) = omega arith in let q : 0 * 10 + entry_at s i ≡ entry_at s i = omega arith in
      let d : digits (drop (suc i) s) m (0 * 10 + entry_at s i) 1 ≡ pick (ltb e 16) long (run w (j - i)) = sym (digits_on s i (suc m) 0 0 l) ∙ ran_is r in
      sym (counted (drop (suc i) s) m (entry_at s i) 0) ∙ ap less (rw q at d)
      ∙ by_case (λ t. less (pick t long (run w (j - i))) ≡ pick t long (run w (j - (i + 1)))) (ltb e 16) (λ _. refl) (λ _. ap (run w) z)
