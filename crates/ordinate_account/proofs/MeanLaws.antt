-- What the code adds up is what the plain definition over the list of ordinates says. No place of the code is named here. Assumes nothing.
use Rattle.std.specs.Prelude.{Option, Some, None}
use mathlib.Core.Path.{◌≡◌, refl, sym, ap, ◌∙◌}
use mathlib.Core.Bool.{Bool, true, false}
use mathlib.Core.List.{List, [], ◌∷◌}
use Prim.Native.Nat.{ℕ, zero, suc, ◌+◌, ◌-◌, ◌*◌, ◌≤◌, ◌<◌}
use native.Mathlib.Omega.{arith}
use lib.Dec.{ltb, eqb}
use lib.IntN.{ℤ, pos, sub_ℕ, neg_ℤ, ◌+ℤ◌, ◌-ℤ◌, +ℤ_assoc, +ℤ_comm, neg_ℤ-+ℤ}
use lib.ListN.{length}
use lib.Signed.{mag}
use mir.Syntax.{w64}
use mir.Val.{SFits}
use borrow.Author.Tests.{ltb-true, ltb-false, le-ltb, eqb-false, eq-eqb, ne_eqb}
use Rattle.terms.specs.Logic.{pick, by_case}
use Rattle.table_spec.specs.Frame.{zero_ordinate, entry_for, apart}
use Rattle.night_spec.specs.Report.{given, missing, magnitudes, lesser, least, greater, greatest, sum_of, ordinate_level, size_level, account_of}
use Rattle.ordinate_tally.specs.declared.Tally.{Tally}
use Rattle.ordinate_tally.specs.Tally.{less_of, great_of, faint_of, with_given, with_ordinate, tally_of}
use Rattle.ordinate_account.specs.Account.{level_from, account_from}

-- ---- a sum of ordinates, each as y + 2^31, as a sum with its sign

pub minus_is : (a b : ℕ) → pos a -ℤ pos b ≡ sub_ℕ a b
minus_is a zero = rw (le-ltb a 0 (omega arith)) (ap pos (omega arith))
minus_is a (suc b) = refl

sub_small_case : (a b m : ℕ) (q : Bool) → ltb a b ≡ q → a < m → b < m → mag (sub_ℕ a b) < m
sub_small_case a b m true e h k = rw e (omega (arith, ltb-true a b e))
sub_small_case a b m false e h k = rw e (omega (arith, ltb-false a b e))

pub sub_fits : (a b : ℕ) → a < 9223372036854775808 → b < 9223372036854775808 → SFits w64 (sub_ℕ a b)
sub_fits a b h k = record { sfits = sub_small_case a b 9223372036854775808 (ltb a b) refl h k }

-- ---- differences add up

crossed : (a b c d : ℤ) → (a +ℤ b) +ℤ (c +ℤ d) ≡ (a +ℤ c) +ℤ (b +ℤ d)
crossed a b c d = +ℤ_assoc a b (c +ℤ d) ∙ ap (λ x. a +ℤ x) (sym (+ℤ_assoc b c d) ∙ ap (λ x. x +ℤ d) (+ℤ_comm b c) ∙ +ℤ_assoc c b d) ∙ sym (+ℤ_assoc a c (b +ℤ d))

pub sub_add : (a b c d : ℕ) → sub_ℕ a b +ℤ sub_ℕ c d ≡ sub_ℕ (a + c) (b + d)
sub_add a b c d =
    ap (λ x. x +ℤ sub_ℕ c d) (sym (minus_is a b)) ∙ ap (λ x. (pos a -ℤ pos b) +ℤ x) (sym (minus_is c d)) ∙ crossed (pos a) (neg_ℤ (pos b)) (pos c) (neg_ℤ (pos d))
    ∙ ap (λ x. (pos a +ℤ pos c) +ℤ x) (sym (neg_ℤ-+ℤ (pos b) (pos d))) ∙ minus_is (a + c) (b + d)

-- ---- 0 stands for no number

abbrev pub CodesAs : ℕ → Option ℕ → Type 0
CodesAs l None = l ≡ 0
CodesAs l (Some y) = (l ≡ y) × (0 < y)

-- ---- one ordinate more: u is not missing

less_as : (x : Option ℕ) (l u : ℕ) → 0 < u → CodesAs l x → CodesAs (less_of l u) (Some (lesser u x))
less_as None l u h c = (rw (eq-eqb l 0 c) refl, h)
less_as (Some y) l u h c =
    let e : l ≡ y = c.0 in
    (rw (e, ne_eqb y 0 (λ z. omega (arith, c.1))) refl, by_case (λ q. 0 < pick q y u) (ltb y u) (λ _. c.1) (λ _. h))

great_as : (x : Option ℕ) (l u : ℕ) → 0 < u → CodesAs l x → CodesAs (great_of l u) (Some (greater u x))
great_as None l u h c = (rw (c, le-ltb u 0 (omega arith)) refl, h)
great_as (Some y) l u h c =
    let e : l ≡ y = c.0 in
    (rw e refl, by_case (λ q. 0 < pick q y u) (ltb u y) (λ _. c.1) (λ _. h))

-- ---- the whole list

-- the ordinates that are given, and the magnitudes
pub record Means (g m : List ℕ) (t : Tally) : Type 0 where
  pub count : t.given ≡ length g
  pub sum : sub_ℕ t.raised (t.given * 2147483648) ≡ sum_of g
  pub low : CodesAs t.low (least g)
  pub high : CodesAs t.high (greatest g)
  pub faint : CodesAs t.faint (least m)

abbrev pub MeansAs : List ℕ → Tally → Type 0
MeansAs ys t = Means (given ys) (magnitudes ys) t

-- one more, which is not missing
module _ (u : ℕ) (h : u ≡ 0 → ⊥) (g ms : List ℕ) (t : Tally) (m : Means g ms t) where
  positive : 0 < u
  positive = omega (arith, h)

  sum_more : sub_ℕ (t.raised + u) ((t.given + 1) * 2147483648) ≡ entry_for u +ℤ sum_of g
  sum_more =
      let a : t.raised + u ≡ u + t.raised = omega arith in
      let b : (t.given + 1) * 2147483648 ≡ 2147483648 + t.given * 2147483648 = omega arith in
      rw (a, b) (sym (sub_add u 2147483648 t.raised (t.given * 2147483648)) ∙ ap (λ x. entry_for u +ℤ x) m.sum)

  faint_more : CodesAs (faint_of t.faint u) (least (pick (eqb u zero_ordinate) ms (apart u zero_ordinate ∷ ms)))
  unfolding least
  faint_more =
      by_case (λ q. eqb u zero_ordinate ≡ q → CodesAs (pick q t.faint (less_of t.faint (apart u zero_ordinate))) (least (pick q ms (apart u zero_ordinate ∷ ms)))) (eqb u zero_ordinate)
      (λ _ _. m.faint)
      (λ _ e. let z = eqb-false u zero_ordinate e in less_as (least ms) t.faint (apart u zero_ordinate) (omega (arith, z)) m.faint) refl

  means_given : Means (u ∷ g) (pick (eqb u zero_ordinate) ms (apart u zero_ordinate ∷ ms)) (with_given t u)
  unfolding least greatest sum_of
  means_given = let k = m.count in record {
    count = omega (arith, k);
    sum = sum_more;
    low = less_as (least g) t.low u positive m.low;
    high = great_as (greatest g) t.high u positive m.high;
    faint = faint_more;
  }

means_more : (u : ℕ) (ys : List ℕ) (t : Tally) → MeansAs ys t → MeansAs (u ∷ ys) (with_ordinate t u)
unfolding given magnitudes with_ordinate
means_more u ys t m =
    by_case (λ q. eqb u 0 ≡ q → Means (pick q (given ys) (u ∷ given ys)) (pick q (magnitudes ys) (pick (eqb u zero_ordinate) (magnitudes ys) (apart u zero_ordinate ∷ magnitudes ys)))
    (pick q t (with_given t u))) (eqb u 0)
    (λ _ _. m) (λ _ e. means_given u (eqb-false u 0 e) (given ys) (magnitudes ys) t m) refl

pub means : (ys : List ℕ) → MeansAs ys (tally_of ys)
unfolding given magnitudes tally_of least greatest sum_of
means [] = record { count = refl; sum = refl; low = refl; high = refl; faint = refl }
means (u ∷ ys) = means_more u ys (tally_of ys) (means ys)

-- each point is given or missing
pub missing_given : (ys : List ℕ) → missing ys + length (given ys) ≡ length ys
unfolding missing given
missing_given [] = refl
missing_given (u ∷ ys) =
    let z = missing_given ys in
    by_case (λ q. pick q (suc (missing ys)) (missing ys) + length (pick q (given ys) (u ∷ given ys)) ≡ suc (length ys)) (eqb u 0) (λ _. omega (arith, z)) (λ _. omega (arith, z))

-- ---- as the report says it

ordinate_as : (x : Option ℕ) (l : ℕ) → CodesAs l x → level_from l 1 ≡ ordinate_level x
ordinate_as None l c = rw c refl
ordinate_as (Some y) l c = let e : l ≡ y = c.0 in rw (e, ne_eqb y 0 (λ z. omega (arith, c.1))) refl

size_as : (x : Option ℕ) (l : ℕ) → CodesAs l x → level_from l 0 ≡ size_level x
size_as None l c = rw c refl
size_as (Some y) l c =
    let e : l ≡ y = c.0 in let z : y - 0 ≡ y = omega arith in rw (e, ne_eqb y 0 (λ z. omega (arith, c.1)), le-ltb y 0 (omega arith), z) refl

-- the account of so many ordinates is the plain one
pub account_is : (n : ℕ) (ys : List ℕ) → length ys ≡ n → account_from n (tally_of ys) ≡ account_of ys
unfolding account_from account_of
account_is n ys e =
    let m = means ys in let z = missing_given ys in let g = m.count in
    let k : n - (tally_of ys).given ≡ missing ys = omega (arith, e, z, g) in
    rw (
      k,
      ordinate_as (least (given ys)) (tally_of ys).low m.low,
      ordinate_as (greatest (given ys)) (tally_of ys).high m.high,
      m.sum,
      size_as (least (magnitudes ys)) (tally_of ys).faint
          m.faint,
      e,
    ) refl

-- no more are given than there are points
pub given_most : (n : ℕ) (ys : List ℕ) → length ys ≡ n → (tally_of ys).given ≤ n
given_most n ys e = let m = (means ys).count in omega (arith, e, m, missing_given ys)
