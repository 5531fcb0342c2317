-- From the byte that begins an ordinate of its own to its token. No place of the code is named here. Assumes nothing.
use mathlib.Core.Path.{◌≡◌, refl, sym, subst}
use mathlib.Core.Bool.{true}
use mathlib.Core.List.{List}
use mathlib.Core.Logic.{◌⊎◌, ⊎_elim}
use Prim.Native.Nat.{ℕ, ◌+◌, ◌-◌, ◌*◌, ◌/◌, ◌%◌, ◌≤◌, ◌<◌}
use native.Mathlib.Omega.{arith}
use lib.Dec.{leb, eqb, lit<, lit≤}
use lib.ListN.{length}
use borrow.Author.Tests.{lt-leb, le-leb, leb-true, leb-false, ne_eqb}
use Rattle.terms.specs.Logic.{by_case}
use Rattle.alphabet_spec.specs.Bytes.{kind}
use Rattle.alphabet_spec.specs.Digits.{within}
use Rattle.alphabet_spec.specs.Entries.{entry, entry_at}
use Rattle.byte_entry.specs.Ranged.{ruled}
use Rattle.alphabet.specs.Standing.{standing, entry_stands, within_in, digit_stands}
use Rattle.alphabet.specs.Ran.{Ran, start, taken, joined}
use Rattle.table_numbers.specs.Numbers.{NumberAt}
use Rattle.table_numbers.proofs.NumberLaws.{further_nine, packed_token, plain_number, signed_number, own_digit, own_sqz, own_sign}
use Rattle.table_leads.specs.Leads.{falls, LeadAt}
use Rattle.std.specs.Prelude.{Some}

-- ---- a letter

-- the entry e is that of a letter of SQZ, with the digit d and the sign of the byte b
record Letter (b d e : ℕ) : Type 0 where
  low : 64 ≤ e
  high : e < 96
  digit : d ≡ e % 16
  some : 0 < d
  small : d < 10
  sign : eqb (e / 16 % 4) 1 ≡ falls b

upper : (b : ℕ) → 65 ≤ b → b ≤ 73 → Letter b (b - 64) (entry b)
unfolding entry kind
upper b l h =
    let z = ruled 65 9 (λ x. x) tt b l (omega arith) in let y : entry b / 16 % 4 ≡ 0 = omega arith in
    record {
      low = omega arith;
      high = omega arith;
      digit = omega arith;
      some = omega arith;
      small = omega arith;
      sign = rw (y, ne_eqb b 45 (λ x. omega arith), lt-leb 97 b (omega arith)) refl;
    }

lower : (b : ℕ) → 97 ≤ b → b ≤ 105 → Letter b (b - 96) (entry b)
unfolding entry kind
lower b l h =
    let z = ruled 97 9 (λ x. x - 16) tt b l (omega arith) in let y : entry b / 16 % 4 ≡ 1 = omega arith in
    record {
      low = omega arith;
      high = omega arith;
      digit = omega arith;
      some = omega arith;
      small = omega arith;
      sign = rw (y, ne_eqb b 45 (λ x. omega arith), le-leb 97 b l) refl;
    }

-- a letter, 32 off or not
lettered : (b : ℕ) → 65 ≤ b - b / 32 % 2 * 32 → b - b / 32 % 2 * 32 ≤ 73 → Letter b (b - b / 32 % 2 * 32 - 64) (entry b)
lettered b l h =
    by_case (λ t. leb 97 b ≡ t → Letter b (b - b / 32 % 2 * 32 - 64) (entry b)) (leb 97 b)
    (λ _ x. let y = leb-true 97 b x in let z : b - 96 ≡ b - b / 32 % 2 * 32 - 64 = omega arith in rw (← z) (lower b y (omega arith)))
    (λ _ x. let y = leb-false 97 b x in let z : b - 64 ≡ b - b / 32 % 2 * 32 - 64 = omega arith in rw (← z) (upper b (omega arith) (omega arith))) refl

-- ---- a sign

record Sign (b e : ℕ) : Type 0 where
  low : 128 ≤ e
  high : e < 160
  sign : eqb (e / 16 % 4) 1 ≡ falls b

plus : Sign 43 (entry 43)
unfolding entry kind
plus = record { low = lit≤ tt; high = lit< tt; sign = refl }

minus : Sign 45 (entry 45)
unfolding entry kind
minus = record { low = lit≤ tt; high = lit< tt; sign = refl }

signs : {b : ℕ} → (b ≡ 43) ⊎ (b ≡ 45) → Sign b (entry b)
signs = ⊎_elim (λ x. rw x plus) (λ x. rw x minus)

-- ---- a digit before a run

-- the digit at the place i and at most nine after it: at most ten
one_more : {s : List ℕ} {i b w k : ℕ} → i ≤ length s → b ≡ standing s i → within 48 10 b ≡ true → Ran s (i + 1) (b - 48) 9 w k (entry_at s k) → Ran s i 0 10 w k (entry_at s k)
one_more {s} {i} {b} {w} {k} h g t r =
    let z : b - 48 ≡ 0 * 10 + (b - 48) = omega arith in joined (taken (start s i 0 10 h) g t (omega arith) (omega arith)).on (subst (λ (d : ℕ). Ran s (i + 1) d 9 w k (entry_at s k)) z r) (omega arith)

-- ---- the tokens

module _ (s : List ℕ) (i : ℕ) {b : ℕ} (h : i < length s) (g : b ≡ standing s i) where
  pub letter_leads : 65 ≤ b - b / 32 % 2 * 32 → b - b / 32 % 2 * 32 ≤ 73 → LeadAt s i b (b - b / 32 % 2 * 32 - 64) (i + 1)
  letter_leads l u =
      let z = lettered b l u in let e = entry_stands s i h g in let lo = z.low in let hi = z.high in let d = z.digit in let o = z.some in
      record {
        digit = z.small;
        near = omega arith;
        token = λ w k r f.
            let n : NumberAt s i (entry b) w k = packed_token s i (entry b) (sym e) (omega arith) hi (further_nine (entry b) (omega arith) (λ y. omega arith)) (rw d at r) f in
            rw (← z.sign) (rw (own_sqz (entry b) w lo hi) at n.token);
      }

  -- a digit directly after a blank
  pub digit_leads : within 48 10 b ≡ true → 0 < i → entry_at s (i - 1) ≡ 112 → LeadAt s i b (b - 48) (i + 1)
  digit_leads t o n =
      let y = within_in 48 10 b t in let lo = y.0 in let hi = y.1 in let e = digit_stands s i (rw g at t) in let l = e.0 in
      record {
        digit = omega arith;
        near = omega arith;
        token = λ w k r f.
            let q = r.low in let m : NumberAt s i (entry_at s i) w k = plain_number s i (entry_at s i) refl l o n (Some (w, k)) (one_more (omega arith) g t r, omega arith, f) in
            let u : entry_at s i / 16 % 4 ≡ 0 = omega arith in let v = rw (own_digit (entry_at s i) w l, u) at m.token in
            rw (ne_eqb b 45 (λ x. omega arith), lt-leb 97 b (omega arith)) v;
      }

  -- a sign and the digit x
  pub sign_leads : (b ≡ 43) ⊎ (b ≡ 45) → {x : ℕ} → i + 1 < length s → x ≡ standing s (i + 1) → within 48 10 x ≡ true → LeadAt s i b (x - 48) (i + 1 + 1)
  sign_leads c {x} h' g' t =
      let y = within_in 48 10 x t in let lo = y.0 in let hi = y.1 in let z = signs c in let e = entry_stands s i h g in
      record {
        digit = omega arith;
        near = omega arith;
        token = λ w k r f.
            let q = r.low in let m : NumberAt s i (entry b) w k = signed_number s i (entry b) (sym e) z.low z.high (Some (w, k)) (one_more (omega arith) g' t r, omega arith, f) in
            rw (← z.sign) (rw (own_sign (entry b) w z.low z.high) at m.token);
      }
