-- What counting lines and columns keeps from byte to byte. No place of the code is named here. Assumes nothing.
use mathlib.Core.Path.{◌≡◌, refl, sym, ap, ◌∙◌}
use mathlib.Core.List.{List}
use Prim.Native.Nat.{ℕ, suc, ◌+◌, ◌≤◌, ◌<◌}
use Rattle.std.specs.Prelude.{min}
use native.Mathlib.Omega.{arith}
use native.Mathlib.Numerals.{add-one}
use lib.Dec.{ltb, eqb}
use lib.ListN.{length, get_or}
use borrow.Author.Tests.{ltb-true, ltb-false}
use Rattle.std.proofs.Math.Nat.{min-eq_left, min-eq_right, le_of_lt}
use Rattle.terms.specs.Logic.{pick, by_case}
use Rattle.terms.specs.Places.{line_of, column_of}
use Rattle.terms.specs.PlaceLaws.{line_start, line_next, line_end, line_most, column_start, column_next, column_end, column_most}
use Rattle.terms.specs.Refusals.{refusal_in}

-- the line and the column of the place i are counted, up to the end e
pub record Counted (s : List ℕ) (e line column i : ℕ) : Type 0 where
  pub high : i ≤ e
  pub within : e ≤ length s
  pub line_is : line ≡ line_of s i
  pub column_is : column ≡ column_of s i

pub counted_start : (s : List ℕ) (a e : ℕ) → e ≡ min a (length s) → Counted s e 1 1 0
counted_start s a e h = record { high = omega arith; within = omega arith; line_is = sym (line_start s); column_is = sym (column_start 1 s) }

-- neither goes beyond the bytes that were passed
pub counted_line : {s : List ℕ} {e line column i : ℕ} → Counted s e line column i → line ≤ suc i
counted_line {s} {i = i} c = rw c.line_is (line_most s i)

pub counted_column : {s : List ℕ} {e line column i : ℕ} → Counted s e line column i → column ≤ suc i
counted_column {s} {i = i} c = let z = column_most 1 s i (omega arith) in rw c.column_is (omega arith)

pub counted_on : {s : List ℕ} {e line column i l k : ℕ} → Counted s e line column i → i < e
    → l ≡ pick (eqb (get_or s i 0) 10) (suc line) line → k ≡ pick (eqb (get_or s i 0) 10) 1 (suc column) → Counted s e l k (i + 1)
counted_on {s} {i = i} c h a b =
    let n : i < length s = omega (arith, c.within) in
    record {
      high = omega arith;
      within = c.within;
      line_is = a ∙ rw (c.line_is, add-one i) (sym (line_next s i n));
      column_is = b ∙ rw (c.column_is, add-one i) (sym (column_next 1 s i n));
    }

-- a number read from a text is the same at the place, or at the end of the text where that comes first
at_place : (f : ℕ → ℕ) (s : List ℕ) (a : ℕ) → ((b : ℕ) → length s ≤ b → f b ≡ f (length s)) → f (min a (length s)) ≡ f a
at_place f s a h =
    by_case (λ t. ltb a (length s) ≡ t → f (min a (length s)) ≡ f a) (ltb a (length s)) (λ _ e. ap f (min-eq_left (le_of_lt (ltb-true a (length s) e))))
    (λ _ e. let g = ltb-false a (length s) e in ap f (min-eq_right g) ∙ sym (h a g)) refl

-- the place, or the end of the text, was reached
pub counted_done : {s : List ℕ} {e line column i : ℕ} (number place : ℕ) → Counted s e line column i → e ≡ min place (length s) → e ≤ i
    → record { number = number; place = place; line = line; column = column } ≡ refusal_in s number place
counted_done {s} {line = line} {column = column} {i = i} number place c g h =
    let e : i ≡ min place (length s) = omega (arith, c.high, g) in
    let l : line ≡ line_of s place = c.line_is ∙ ap (line_of s) e ∙ at_place (line_of s) s place (line_end s) in
    let k : column ≡ column_of s place = c.column_is ∙ ap (column_of s) e ∙ at_place (column_of s) s place (column_end 1 s) in
    rw (l, k) refl
