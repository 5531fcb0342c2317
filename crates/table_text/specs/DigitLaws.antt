-- Laws about the digits of a number by their count, stored from right to left. Assumes nothing.
use Rattle.std.specs.Prelude.{◌≡◌, List, [], ◌∷◌, ◌++◌, length, set}
use Rattle.std.proofs.Math.Path.{refl}
use Rattle.std.proofs.Common.{sym, ap, ◌∙◌, append_assoc, arith, add-suc, suc-add, add-zero, not-suc-le-zero, le_of_suc-le-suc, add-one, lit<}
use Prim.Native.Nat.{ℕ, zero, suc, ◌+◌, ◌-◌, ◌*◌, ◌/◌, ◌%◌, ◌^◌, ◌≤◌, ◌<◌}
use Rattle.std.proofs.Math.Nat.{pow-succ', pow-le-pow_right}
use Rattle.std.proofs.Math.Dec.{ltb}
use Rattle.std.proofs.lemmas.List.Edits.{sets}
use Rattle.std.proofs.lemmas.List.{set_comm}
use borrow.Author.Tests.{lt-ltb, le-ltb, ltb-true, ltb-false}
use Rattle.table_write_law.specs.Numbers.{tenth}
use Rattle.terms.specs.Logic.{pick, by_case}
use Rattle.table_spec.specs.Numerals.{top, low}
use Rattle.table_text.specs.Digits.{further, last_digits, Counting, Storing, Digits}

pub low_further : (f v : ℕ) (acc : List ℕ) → low f v acc ≡ last_digits (further f v) v acc
unfolding low last_digits further
low_further zero v acc = refl
low_further (suc f) v acc =
    by_case (λ q. pick q acc (low f (v / 10) ((48 + v % 10) ∷ acc)) ≡ last_digits (pick q 0 (suc (further f (v / 10)))) v acc) (ltb v 10)
    (λ _. refl) (λ _. low_further f (v / 10) ((48 + v % 10) ∷ acc))

length_last : (n v : ℕ) (acc : List ℕ) → length (last_digits n v acc) ≡ n + length acc
unfolding last_digits
length_last zero v acc = omega arith
length_last (suc n) v acc = length_last n (v / 10) ((48 + v % 10) ∷ acc) ∙ omega arith

pub length_low : (f v : ℕ) → length (low f v []) ≡ further f v
length_low f v = omega (arith, ap length (low_further f v []), length_last (further f v) v [])

pub further_le : (f v : ℕ) → further f v ≤ f
unfolding further
further_le zero v = omega arith
further_le (suc f) v = by_case (λ q. pick q 0 (suc (further f (v / 10))) ≤ suc f) (ltb v 10) (λ _. omega arith) (λ _. omega (arith, further_le f (v / 10)))

last_acc : (n v : ℕ) (acc : List ℕ) → last_digits n v acc ≡ last_digits n v [] ++ acc
unfolding last_digits
last_acc zero v acc = refl
last_acc (suc n) v acc =
    let d = 48 + v % 10 in
    last_acc n (v / 10) (d ∷ acc) ∙ sym (ap (λ (l : List ℕ). l ++ acc) (last_acc n (v / 10) (d ∷ [])) ∙ append_assoc (last_digits n (v / 10) []) (d ∷ []) acc)

-- ---- storing

-- the last byte first
sets_last : (l : List ℕ) (i b : ℕ) (vs : List ℕ) → sets l i (vs ++ (b ∷ [])) ≡ sets (set l (i + length vs) b) i vs
sets_last l i b [] = rw (add-zero i) refl
sets_last l i b (v ∷ vs) =
    sets_last (set l i v) (suc i) b vs ∙ rw (add-suc i (length vs), suc-add i (length vs))
    (ap (λ (x : List ℕ). sets x (suc i) vs) (set_comm l i (suc (i + length vs)) v b (λ e. omega arith)))

-- one digit more is stored, from the right
stored : (l : List ℕ) (at n v : ℕ) → sets (set l (at + n) (48 + v % 10)) at (last_digits n (v / 10) []) ≡ sets l at (last_digits (suc n) v [])
unfolding last_digits
stored l at n v =
    let d = 48 + v % 10 in
    let e : length (last_digits n (v / 10) []) ≡ n = length_last n (v / 10) [] ∙ add-zero n in
    rw (last_acc n (v / 10) (d ∷ []), sets_last l at d (last_digits n (v / 10) []), e) refl

stored_at : (l : List ℕ) (at j v : ℕ) → 0 < j → sets (set l (at + (j - 1)) (48 + v % 10)) at (last_digits (j - 1) (v / 10) []) ≡ sets l at (last_digits j v [])
stored_at l at zero v h = absurd (omega arith)
stored_at l at (suc n) v h = let e : suc n - 1 ≡ n = omega arith in rw e (stored l at n v)

-- ---- counting by tens

tenth_least : (n v : ℕ) → 10 ^ suc n ≤ v → 10 ^ n ≤ v / 10
tenth_least n v h = let e = pow-succ' 10 n in omega arith

least_ten : (n v : ℕ) → 10 ^ suc n ≤ v → 10 ≤ v
least_ten n v h = let e = pow-succ' 10 n in let l : 0 ≤ n = omega arith in let k : 10 ^ 0 ≤ 10 ^ n = pow-le-pow_right (lit< tt) l in omega arith

-- n digits follow the first of a number from 10^n to below 10^(n+1)
further_is : (n f v : ℕ) → n ≤ f → v < 10 ^ suc n → (0 < n → 10 ^ n ≤ v) → further f v ≡ n
unfolding further
further_is zero zero v l h g = refl
further_is zero (suc f) v l h g = rw (lt-ltb v 10 h) refl
further_is (suc n) zero v l h g = absurd (not-suc-le-zero l)
further_is (suc n) (suc f) v l h g =
    let k = g (omega arith) in
    rw (le-ltb v 10 (least_ten n v k)) (ap suc (further_is n f (v / 10) (le_of_suc-le-suc l) (tenth n v h) (λ _. tenth_least n v k)))

pub count_none : (v : ℕ) → Counting v 0 10
count_none v = record { few = omega arith; is = refl; least = λ h. absurd (omega arith) }

few_digits : (n v : ℕ) → v < 10000000000 → 10 ^ suc n ≤ v → n ≤ 9 → suc n ≤ 9
few_digits n v b h l =
    by_case (λ t. suc n ≤ 9) (ltb n 9) (λ e. omega (arith, ltb-true n 9 e))
    (λ e. let k : n ≡ 9 = omega (arith, ltb-false n 9 e) in let z : 10 ^ suc 9 ≤ v = rw k at h in absurd (omega arith))

pub count_more : (v n limit : ℕ) → v < 10000000000 → Counting v n limit → limit ≤ v → Counting v (n + 1) (limit * 10)
count_more v n limit b c h =
    let e = c.is in
    let k : 10 ^ suc n ≤ v = omega arith in
    let l : suc n ≤ 9 = few_digits n v b k c.few in
    let z = pow-succ' 10 (suc n) in
    rw (add-one n) (record { few = l; is = omega arith; least = λ _. k })

-- up to three digits are told by comparing
pub count_two : (v : ℕ) → v < 10000000000 → 10 ≤ v → Counting v 1 100
count_two v b h = count_more v 0 10 b (count_none v) h

pub count_three : (v : ℕ) → v < 10000000000 → 100 ≤ v → Counting v 2 1000
count_three v b h = count_more v 1 100 b (count_two v b (omega arith)) h

pub count_four : (v : ℕ) → v < 10000000000 → 1000 ≤ v → Counting v 3 10000
count_four v b h = count_more v 2 1000 b (count_three v b (omega arith)) h

pub count_end : (v n limit : ℕ) → Counting v n limit → v < limit → (n ≡ further 9 v) × (n ≤ 9)
count_end v n limit c h = let e = c.is in (sym (further_is n 9 v c.few (omega arith) c.least), c.few)

-- ---- storing by tens: what is left is w, with j digits to store from its right

pub store_none : (v n : ℕ) → v < 10000000000 → n ≡ further 9 v → Storing v v n
store_none v n h e = record { fuel = 9; first = refl; left = sym e; short = h }

module _ (v w j : ℕ) where
  less : (f : ℕ) → 0 < j → top 9 v ≡ top f w → further f w ≡ j → w < 10 ^ suc f → Storing v (w / 10) (j - 1)
  unfolding further top
  less zero h t l s = absurd (omega arith)
  less (suc f) h t l s =
      by_case (λ q. ltb w 10 ≡ q → top 9 v ≡ pick q w (top f (w / 10)) → pick q 0 (suc (further f (w / 10))) ≡ j → Storing v (w / 10) (j - 1)) (ltb w 10)
      (λ _ e t l. absurd (omega arith))
      (λ _ e t l. record { fuel = f; first = t; left = omega arith; short = tenth f w s }) refl t l

  pub store_more : Storing v w j → 0 < j → Storing v (w / 10) (j - 1)
  store_more c h = less c.fuel h c.first c.left c.short

  whole : (f : ℕ) → j ≤ 0 → top 9 v ≡ top f w → further f w ≡ j → w < 10 ^ suc f → (w ≡ top 9 v) × (w < 10)
  unfolding further top
  whole zero h t l s = (sym t, s)
  whole (suc f) h t l s =
      by_case (λ q. ltb w 10 ≡ q → top 9 v ≡ pick q w (top f (w / 10)) → pick q 0 (suc (further f (w / 10))) ≡ j → (w ≡ top 9 v) × (w < 10)) (ltb w 10)
      (λ _ e t l. (sym t, ltb-true w 10 e))
      (λ _ e t l. absurd (omega arith)) refl t l

  pub store_end : Storing v w j → j ≤ 0 → (w ≡ top 9 v) × (w < 10)
  store_end c h = whole c.fuel h c.first c.left c.short

module _ (v n at : ℕ) where
  pub digits_start : (o : List ℕ) → v < 10000000000 → n ≡ further 9 v → Digits v n at o o v n
  digits_start o h e = record { few = omega arith; same = refl; rest = refl; still = store_none v n h e }

  pub digits_more : {o₀ o : List ℕ} {w j : ℕ} (o' : List ℕ) → Digits v n at o₀ o w j → 0 < j → length o' ≡ length o → o' ≡ set o (at + (j - 1)) (48 + w % 10)
      → Digits v n at o₀ o' (w / 10) (j - 1)
  digits_more {o = o} {w = w} {j = j} o' d h l e =
      let few = d.few in
      record { few = omega arith; same = l ∙ d.same; rest = rw e (stored_at o at j w h ∙ d.rest); still = store_more v w j d.still h }

  none_left : (j : ℕ) (l : List ℕ) (w : ℕ) → j ≤ 0 → sets l at (last_digits j w []) ≡ l
  unfolding last_digits
  none_left zero l w h = refl
  none_left (suc j) l w h = absurd (omega arith)

  pub digits_end : {o₀ o : List ℕ} {w j : ℕ} → n ≡ further 9 v → Digits v n at o₀ o w j → j ≤ 0 → (w ≡ top 9 v) × (w < 10) × (o ≡ sets o₀ at (low 9 v []))
  digits_end {o₀ = o₀} {o = o} {w = w} {j = j} e d h =
      let z = store_end v w j d.still h in
      (z.0, z.1, sym (none_left j o w h) ∙ d.rest ∙ rw (e, low_further 9 v []) refl)
