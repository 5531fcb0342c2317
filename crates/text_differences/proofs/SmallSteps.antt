-- What the storing of numbers of at most four digits needs. No place of the code is named here. Assumes nothing.
use mathlib.Core.Path.{◌≡◌, refl, sym, ap, ◌∙◌}
use mathlib.Core.List.{List, [], ◌∷◌, ◌++◌}
use Prim.Native.Nat.{ℕ, suc, ◌+◌, ◌-◌, ◌*◌, ◌/◌, ◌%◌, ◌≤◌, ◌<◌}
use native.Mathlib.Omega.{arith}
use native.Mathlib.Nat.{not-suc-le-zero, le_of_suc-le-suc}
use native.Mathlib.Numerals.{add-one}
use lib.Dec.{lit≤}
use lib.ListN.{length, set, get_or, length-append}
use lib.Seq.{sets, set-set}
use borrow.Author.Tests.{lt-ltb, le-ltb}
use Rattle.table_spec.specs.Numerals.{top, low}
use Rattle.table_text.specs.Digits.{further}
use Rattle.table_text.proofs.SmallSteps.{by_digits, further_one, further_two, further_three, further_four}
use Rattle.table_text.specs.Pieces.{Ahead, number, sets_append, set_sets}
use Rattle.text_differences.specs.Small.{scales, four, Over}

-- ---- four digits

pub scaled_small : (v : ℕ) → v < 10000 → v * get_or scales (further 9 v) 0 < 10000
unfolding scales
scaled_small v h =
    by_digits (λ v. v * get_or scales (further 9 v) 0 < 10000) v h
    (λ a. rw (further_one v a) (omega arith))
    (λ l a. rw (further_two v l a) (omega arith))
    (λ l a. rw (further_three v l a) (omega arith))
    (λ l. rw (further_four v l h) (omega arith))

-- a number and what stands after it are its four digits, moved to the left
record Widened (base v : ℕ) : Type 0 where
  rest : List ℕ
  is : four base (v * get_or scales (further 9 v) 0) ≡ number base v ++ rest
  few : length rest ≤ 3

module _ (base v : ℕ) where
  one : v < 10 → Widened base v
  unfolding scales four number top low
  one h =
      let a : v * 1000 / 1000 ≡ v = omega arith in
      let b : v * 1000 / 100 % 10 ≡ 0 = omega arith in
      let c : v * 1000 / 10 % 10 ≡ 0 = omega arith in
      let d : v * 1000 % 10 ≡ 0 = omega arith in
      record { rest = 48 ∷ 48 ∷ 48 ∷ []; is = rw (further_one v h, a, b, c, d, lt-ltb v 10 h) refl; few = lit≤ tt }

  two : 10 ≤ v → v < 100 → Widened base v
  unfolding scales four number top low
  two l h =
      let a : v * 100 / 1000 ≡ v / 10 = omega arith in
      let b : v * 100 / 100 % 10 ≡ v % 10 = omega arith in
      let c : v * 100 / 10 % 10 ≡ 0 = omega arith in
      let d : v * 100 % 10 ≡ 0 = omega arith in
      record { rest = 48 ∷ 48 ∷ []; is = rw (further_two v l h, a, b, c, d, le-ltb v 10 l, lt-ltb (v / 10) 10 (omega arith)) refl; few = lit≤ tt }

  three : 100 ≤ v → v < 1000 → Widened base v
  unfolding scales four number top low
  three l h =
      let a : v * 10 / 1000 ≡ v / 10 / 10 = omega arith in
      let b : v * 10 / 100 % 10 ≡ v / 10 % 10 = omega arith in
      let c : v * 10 / 10 % 10 ≡ v % 10 = omega arith in
      let d : v * 10 % 10 ≡ 0 = omega arith in
      record {
        rest = 48 ∷ [];
        is = rw (further_three v l h, a, b, c, d, le-ltb v 10 (omega arith), le-ltb (v / 10) 10 (omega arith), lt-ltb (v / 10 / 10) 10 (omega arith)) refl;
        few = lit≤ tt;
      }

  all : 1000 ≤ v → v < 10000 → Widened base v
  unfolding scales four number top low
  all l h =
      let z : v * 1 ≡ v = omega arith in
      let a : v / 1000 ≡ v / 10 / 10 / 10 = omega arith in
      let b : v / 100 % 10 ≡ v / 10 / 10 % 10 = omega arith in
      record {
        rest = [];
        is = rw (
          further_four v l h,
          z,
          a,
          b,
          le-ltb v 10 (omega arith),
          le-ltb (v / 10) 10 (omega arith),
          le-ltb (v / 10 / 10) 10 (omega arith),
          lt-ltb (v / 10 / 10 / 10) 10 (omega arith),
        ) refl;
        few = lit≤ tt;
      }

  widened : v < 10000 → Widened base v
  widened h = by_digits (λ v. Widened base v) v h one two three (λ l. all l h)

  pub over_small : {o o' : List ℕ} (at w : ℕ) → v < 10000 → w ≡ v * get_or scales (further 9 v) 0 → o' ≡ sets o at (four base w) → Over o at o' (number base v)
  over_small at w h e f = let x = widened h in record { rest = x.rest; stored = f ∙ rw (e, x.is) refl; few = x.few }

-- the four stores
pub stored_four : (o : List ℕ) (at base w a b c d : ℕ) → w < 10000 → a ≡ 48 + w / 100 / 10 → b ≡ 48 + w / 100 % 10 → c ≡ 48 + w % 100 / 10 → d ≡ 48 + w % 100 % 10
    → set (set (set (set o at (base + a - 48)) (at + 1) b) (at + 2) c) (at + 3) d ≡ sets o at (four base w)
unfolding four
stored_four o at base w a b c d h e f g k =
    let a₁ : base + a - 48 ≡ base + w / 1000 = omega arith in
    let c₁ : c ≡ 48 + w / 10 % 10 = omega arith in
    let d₁ : d ≡ 48 + w % 10 = omega arith in
    let i : at + 1 ≡ suc at = add-one at in
    let j : at + 2 ≡ suc (suc at) = omega arith in
    let l : at + 3 ≡ suc (suc (suc at)) = omega arith in
    rw (a₁, f, c₁, d₁, i, j, l) refl

-- ---- what is stored over

sets_over : (l : List ℕ) (i : ℕ) (a b : List ℕ) → length a ≤ length b → sets (sets l i a) i b ≡ sets l i b
sets_over l i [] b h = refl
sets_over l i (v ∷ a) [] h = absurd (not-suc-le-zero h)
sets_over l i (v ∷ a) (w ∷ b) h =
    ap (λ (x : List ℕ). sets x (suc i) b) (set_sets (set l i v) (suc i) i w a (omega arith) ∙ ap (λ (x : List ℕ). sets x (suc i) a) (set-set l i v w))
    ∙ sets_over (set l i w) (suc i) a b (le_of_suc-le-suc h)

pub ahead_over : {x o o' : List ℕ} {n at : ℕ} {g : List ℕ} (s : List ℕ) → Over o at o' g → 3 ≤ length s → Ahead x n o at (g ++ s) → Ahead x n o' (at + length g) s
ahead_over {o = o} {at = at} {g = g} s v l a =
    let few = v.few in
    record {
      whole = rw (v.stored, sets_append o at g v.rest, sets_over (sets o at g) (at + length g) v.rest s (omega arith)) (sym (sets_append o at g s) ∙ a.whole);
      ends = omega (arith, a.ends, length-append g s);
    }
