-- From a byte and the few digits after it to the token of a difference or of a DUP. No place of the code is named here. Assumes nothing.
use mathlib.Core.Path.{◌≡◌, refl, sym, ◌∙◌, subst}
use mathlib.Core.List.{List}
use Prim.Native.Nat.{ℕ, ◌+◌, ◌-◌, ◌*◌, ◌/◌, ◌%◌, ◌≤◌, ◌<◌}
use native.Mathlib.Omega.{arith}
use lib.Dec.{leb}
use lib.ListN.{length}
use borrow.Author.Tests.{lt-leb, le-leb, leb-true, leb-false}
use Rattle.terms.specs.Logic.{by_case, no_way}
use Rattle.alphabet_spec.specs.Bytes.{kind}
use Rattle.alphabet_spec.specs.Entries.{entry, entry_at}
use Rattle.byte_entry.specs.Ranged.{ruled}
use Rattle.alphabet.specs.Standing.{standing, entry_stands}
use Rattle.alphabet.specs.Ran.{Ran, Few, start, stop, ran_within, ran_below}
use Rattle.table_spec.specs.Values.{by, times}
use Rattle.table_numbers.specs.Numbers.{Token, NumberAt}
use Rattle.table_numbers.proofs.NumberLaws.{further_dup, further_none, further_nine, packed_token, dif_at, dup_at}
use Rattle.table_shorts.specs.Short.{ShortAt}

-- ---- what begins a difference

-- the entry e is that of a difference, with the lead digit d and the sign of the byte b
record Begins (b d e : ℕ) : Type 0 where
  low : 32 ≤ e
  high : e < 64
  digit : d ≡ e % 16
  sign : leb 48 e ≡ leb 106 b

upper : (b : ℕ) → 74 ≤ b → b ≤ 82 → Begins b (b - 73) (entry b)
unfolding entry kind
upper b l h =
    let z = ruled 74 9 (λ x. x - 41) tt b l (omega arith) in
    record { low = omega arith; high = omega arith; digit = omega arith; sign = rw (lt-leb 48 (entry b) (omega arith), lt-leb 106 b (omega arith)) refl }

lower : (b : ℕ) → 106 ≤ b → b ≤ 114 → Begins b (b - 105) (entry b)
unfolding entry kind
lower b l h =
    let z = ruled 106 9 (λ x. x - 57) tt b l (omega arith) in
    record { low = omega arith; high = omega arith; digit = omega arith; sign = rw (le-leb 48 (entry b) (omega arith), le-leb 106 b l) refl }

-- a letter, 32 off or not
lettered : (b : ℕ) → 74 ≤ b - b / 32 % 2 * 32 → b - b / 32 % 2 * 32 ≤ 82 → Begins b (b - b / 32 % 2 * 32 - 73) (entry b)
lettered b l h =
    by_case (λ t. leb 106 b ≡ t → Begins b (b - b / 32 % 2 * 32 - 73) (entry b)) (leb 106 b)
    (λ _ x. let y = leb-true 106 b x in subst (λ (d : ℕ). Begins b d (entry b)) (omega arith) (lower b y (omega arith)))
    (λ _ x. let y = leb-false 106 b x in subst (λ (d : ℕ). Begins b d (entry b)) (omega arith) (upper b (omega arith) (omega arith))) refl

-- S to Z begin a DUP
dups : (b : ℕ) → 83 ≤ b → b ≤ 90 → b - 66 ≡ entry b
unfolding entry kind
dups b l h = ruled 83 8 (λ x. x - 66) tt b l (omega arith)

percent : entry 37 ≡ 32
unfolding entry kind
percent = refl

-- ---- the tokens

module _ (s : List ℕ) (i : ℕ) {b : ℕ} (h : i < length s) (g : b ≡ standing s i) where
  -- a letter and at most three digits
  pub letter_short : {v j x : ℕ} → 74 ≤ b - b / 32 % 2 * 32 → b - b / 32 % 2 * 32 ≤ 82 → Few s (i + 1) (b - b / 32 % 2 * 32 - 73) v j x → 16 ≤ entry_at s j → ShortAt s i b v j
  letter_short {v} {j} l u f o =
      let z = subst (Begins b (b - b / 32 % 2 * 32 - 73)) (sym (entry_stands s i h g)) (lettered b l u) in let a = z.low in let c = z.high in let d = z.digit in
      let r = f.run in let q = r.few in let w = f.grows in let m = ran_below r in
      let n : NumberAt s i (entry_at s i) v j = packed_token s i (entry_at s i) refl (omega arith) (omega arith) (further_nine (entry_at s i) a (λ y. omega arith))
      (rw d at (ran_within 9 r o (omega arith))) o in
      record { small = omega arith; falls = λ y. omega arith; token = rw (← z.sign) (rw (dif_at (entry_at s i) v a c) at n.token) }

  -- `%`, with no digit after it
  pub zero_short : b ≡ 37 → 16 ≤ entry_at s (i + 1) → i + 1 ≤ length s → ShortAt s i b 0 (i + 1)
  zero_short p o l =
      let e : entry_at s i ≡ 32 = entry_stands s i h g ∙ rw p percent in let d : 0 ≡ entry_at s i % 16 = omega arith in
      let n : NumberAt s i (entry_at s i) 0 (i + 1) = packed_token s i (entry_at s i) refl (omega arith) (omega arith) (further_none (entry_at s i) (omega arith) (omega arith))
      (subst (λ (y : ℕ). Ran s (i + 1) y 0 0 (i + 1) (entry_at s (i + 1))) d (stop (start s (i + 1) 0 0 l) refl (λ y. omega arith))) o in
      let t : Token s i (by (leb 48 (entry_at s i)) 0) (i + 1) = rw (dif_at (entry_at s i) 0 (omega arith) (omega arith)) at n.token in
      record { small = omega arith; falls = λ y. no_way (rw p at y); token = rw p (rw e at t) }

  -- S to Z and at most three digits
  pub count_short : {v j x : ℕ} → 83 ≤ b → b ≤ 90 → Few s (i + 1) (b - 82) v j x → 16 ≤ entry_at s j → (v < 10000) × Token s i (times v) j
  count_short {v} {j} l u f o =
      let z = dups b l u in let e = entry_stands s i h g in
      let r = f.run in let q = r.few in let m = ran_below r in let d : b - 82 ≡ entry_at s i % 16 = omega arith in
      let n : NumberAt s i (entry_at s i) v j = packed_token s i (entry_at s i) refl (omega arith) (omega arith) (further_dup (entry_at s i) (omega arith))
      (rw d at (ran_within 4 r o (omega arith))) o in
      (omega arith, rw (dup_at (entry_at s i) v (omega arith)).0 at n.token)
