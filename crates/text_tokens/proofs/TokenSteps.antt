-- What the finding of tokens and groups needs. No place of the code is named here. Assumes nothing.
use mathlib.Core.Path.{◌≡◌, refl, sym, ap, ◌∙◌}
use mathlib.Core.Bool.{Bool, true, false, beq}
use mathlib.Core.List.{List, [], ◌∷◌, ◌++◌}
use Prim.Native.Nat.{ℕ, suc, ◌+◌, ◌-◌, ◌≤◌, ◌<◌}
use native.Mathlib.Omega.{arith}
use native.Mathlib.Nat.{add-zero, zero-add}
use native.Mathlib.Numerals.{add-one}
use lib.Dec.{ltb, leb, eqb, lit≤}
use lib.ListN.{length, get_or, drop, length-append, drop_of_length-le}
use lib.Seq.{drop-cons}
use borrow.Author.Tests.{ltb-true, ltb-false, eqb-true, eqb-false, leb-true, leb-false, le-leb, lt-leb, lt-ltb, le-ltb, eq-eqb, ne_eqb}
use Rattle.terms.specs.Logic.{pick, both, by_case, no_way, both_true}
use Rattle.table_write_law.specs.Numbers.{top_some}
use Rattle.alphabet_spec.specs.Kinds.{dif}
use Rattle.table_spec.specs.Values.{Own, Gap, By}
use Rattle.table_spec.specs.Numerals.{top, low, lead_byte, numeral}
use Rattle.table_spec.specs.Groups.{form, sqz_text, token_text, alike, many, dup_text, group}
use Rattle.text_tokens.specs.declared.Token.{Token}
use Rattle.table_text.specs.Digits.{further}
use Rattle.table_text.specs.DigitLaws.{further_le}
use Rattle.table_text.proofs.NumberSteps.{number_length}
use Rattle.table_text.specs.Pieces.{number}
use Rattle.text_tokens.specs.Tokens.{again, run, lead_of, TokenFor, Found, count_at, group_at}

-- ---- forms

module _ (p y : ℕ) where
  form_gap : y ≡ 0 → form p y ≡ Gap
  unfolding form
  form_gap e = rw (eq-eqb y 0 e) refl

  form_own : 0 < y → p ≡ 0 → form p y ≡ Own
  unfolding form
  form_own h e = rw (ne_eqb y 0 (λ z. omega arith), eq-eqb p 0 e) refl

  form_up : 0 < y → 0 < p → p ≤ y → form p y ≡ By false (y - p)
  unfolding form
  form_up h k l = rw (ne_eqb y 0 (λ z. omega arith), ne_eqb p 0 (λ z. omega arith), le-leb p y l) refl

  form_down : 0 < y → 0 < p → y < p → form p y ≡ By true (p - y)
  unfolding form
  form_down h k l = rw (ne_eqb y 0 (λ z. omega arith), ne_eqb p 0 (λ z. omega arith), lt-leb p y l) refl

-- ---- the same token again, for each form

eqb_same : (a b c d : ℕ) → (a ≡ b → c ≡ d) → (c ≡ d → a ≡ b) → eqb a b ≡ eqb c d
eqb_same a b c d f g =
    by_case (λ t. eqb a b ≡ t → t ≡ eqb c d) (eqb a b)
    (λ _ e. sym (eq-eqb c d (f (eqb-true a b e)))) (λ _ e. sym (ne_eqb c d (λ z. eqb-false a b e (g z)))) refl

both_false : (t : Bool) → both t false ≡ false
both_false true = refl
both_false false = refl

pos_true : (q : ℕ) → 0 < q → ltb 0 q ≡ true
pos_true q h = lt-ltb 0 q h

again_gap : (q z : ℕ) → q ≡ 0 → both (eqb (q + 0) (z + 0)) (beq (ltb 0 z) false) ≡ alike Gap (form q z)
again_gap q z h =
    by_case (λ t. eqb z 0 ≡ t → both (eqb (q + 0) (z + 0)) (beq (ltb 0 z) false) ≡ alike Gap (form q z)) (eqb z 0)
    (λ _ e. let x = eqb-true z 0 e in rw (form_gap q z x, eq-eqb (q + 0) (z + 0) (omega arith), le-ltb 0 z (omega arith)) refl)
    (λ _ e. let x = eqb-false z 0 e in rw (form_own q z (omega (arith, x)) h, ne_eqb (q + 0) (z + 0) (λ w. x (omega arith))) refl) refl

again_own : (q z : ℕ) → 0 < q → both (eqb (q + 0) (z + 0)) (beq (ltb 0 z) false) ≡ false
again_own q z h =
    by_case (λ t. eqb (q + 0) (z + 0) ≡ t → both t (beq (ltb 0 z) false) ≡ false) (eqb (q + 0) (z + 0))
    (λ _ e. let x = eqb-true (q + 0) (z + 0) e in rw (lt-ltb 0 z (omega arith)) refl) (λ _ e. refl) refl

module _ (d q z : ℕ) (h : 0 < q) where
  again_up : both (eqb (q + d) (z + 0)) (beq (ltb 0 z) true) ≡ alike (By false d) (form q z)
  again_up =
      by_case (λ t. eqb z 0 ≡ t → both (eqb (q + d) (z + 0)) (beq (ltb 0 z) true) ≡ alike (By false d) (form q z)) (eqb z 0)
      (λ _ e. let x = eqb-true z 0 e in rw (form_gap q z x, ne_eqb (q + d) (z + 0) (λ w. omega arith)) refl)
      (λ _ e. let x = eqb-false z 0 e in let y : 0 < z = omega (arith, x) in
      by_case (λ t. leb q z ≡ t → both (eqb (q + d) (z + 0)) (beq (ltb 0 z) true) ≡ alike (By false d) (form q z)) (leb q z)
      (λ _ l. let k = leb-true q z l in rw (form_up q z y h k, lt-ltb 0 z y, eqb_same (q + d) (z + 0) d (z - q) (λ w. omega arith) (λ w. omega arith)) (true_end (eqb d (z - q))))
      (λ _ l. let k = leb-false q z l in rw (form_down q z y h k, ne_eqb (q + d) (z + 0) (λ w. omega arith)) refl) refl) refl
    where
      true_end : (t : Bool) → both t true ≡ t
      true_end true = refl
      true_end false = refl

  again_down : 0 < d → both (eqb (q + 0) (z + d)) (beq (ltb 0 z) true) ≡ alike (By true d) (form q z)
  again_down g =
      by_case (λ t. eqb z 0 ≡ t → both (eqb (q + 0) (z + d)) (beq (ltb 0 z) true) ≡ alike (By true d) (form q z)) (eqb z 0)
      (λ _ e. let x = eqb-true z 0 e in rw (form_gap q z x, le-ltb 0 z (omega arith)) (both_false (eqb (q + 0) (z + d))))
      (λ _ e. let x = eqb-false z 0 e in let y : 0 < z = omega (arith, x) in
      by_case (λ t. leb q z ≡ t → both (eqb (q + 0) (z + d)) (beq (ltb 0 z) true) ≡ alike (By true d) (form q z)) (leb q z)
      (λ _ l. let k = leb-true q z l in rw (form_up q z y h k, ne_eqb (q + 0) (z + d) (λ w. omega arith)) refl)
      (λ _ l. let k = leb-false q z l in rw (form_down q z y h k, lt-ltb 0 z y, eqb_same (q + 0) (z + d) d (q - z) (λ w. omega arith) (λ w. omega arith)) (true_end (eqb d (q - z)))) refl) refl
    where
      true_end : (t : Bool) → both t true ≡ t
      true_end true = refl
      true_end false = refl

-- ---- the tokens

same_sides : (s t : Bool) → beq s t ≡ true → s ≡ t
same_sides true true e = refl
same_sides true false e = no_way e
same_sides false true e = no_way e
same_sides false false e = refl

sided : (a s t : Bool) → both a (beq s t) ≡ true → s ≡ t
sided a s t e = same_sides s t (both_true a (beq s t) e).1

pub gap_token : (p y : ℕ) → y ≡ 0 → TokenFor p y (record { base = 63; size = 0; up = 0; down = 0; dif = false })
unfolding token_text number top low
gap_token p y e =
    let f = form_gap p y e in
    let n : ltb 0 y ≡ false = le-ltb 0 y (omega arith) in
    record {
      text = rw f refl;
      base = lit≤ tt;
      small = record { size = omega arith; up = omega arith; down = omega arith };
      dif_is = rw f refl;
      likes = λ q z h. rw f (again_gap q z (let k = ltb-false 0 q (h ∙ n) in omega arith));
      keeps = λ q z h k. sided (eqb (q + 0) (z + 0)) (ltb 0 z) false k ∙ sym n;
    }

own_record : (y base size : ℕ) → 0 < y → base ≤ 105 → size < 4294967296 → sqz_text y ≡ number base size → TokenFor 0 y (record { base = base; size = size; up = 0; down = 0; dif = false })
unfolding token_text
own_record y base size h b s t =
    let f = form_own 0 y h refl in
    let n = pos_true y h in
    record {
      text = rw f t;
      base = b;
      small = record { size = s; up = omega arith; down = omega arith };
      dif_is = rw f refl;
      likes = λ q z k. rw f (again_own q z (ltb-true 0 q (k ∙ n)));
      keeps = λ q z k l. no_way (sym (again_own q z (ltb-true 0 q (k ∙ n))) ∙ l);
    }

pub own_up : (y : ℕ) → 0 < y → y < 4294967296 → 2147483648 ≤ y → TokenFor 0 y (record { base = 64; size = y - 2147483648; up = 0; down = 0; dif = false })
unfolding sqz_text numeral number
own_up y h b l = own_record y 64 (y - 2147483648) h (lit≤ tt) (omega arith) (rw (le-leb 2147483648 y l) refl)

pub own_down : (y : ℕ) → 0 < y → y < 4294967296 → y < 2147483648 → TokenFor 0 y (record { base = 96; size = 2147483648 - y; up = 0; down = 0; dif = false })
unfolding sqz_text numeral number
own_down y h b l = own_record y 96 (2147483648 - y) h (lit≤ tt) (omega arith) (rw (lt-leb 2147483648 y l) refl)

module _ (p y : ℕ) (h : 0 < p) (a : p < 4294967296) (k : 0 < y) (b : y < 4294967296) where
  up_record : (base : ℕ) → base ≤ 105 → p ≤ y → lead_byte (dif false) (top 9 (y - p)) ≡ base + top 9 (y - p) → TokenFor p y (record { base = base; size = y - p; up = y - p; down = 0; dif = true })
  unfolding token_text numeral number
  up_record base l g t =
      let f = form_up p y k h g in
      let n = pos_true y k in
      record {
        text = rw (f, t) refl;
        base = l;
        small = record { size = omega arith; up = omega arith; down = omega arith };
        dif_is = rw f refl;
        likes = λ q z e. rw f (again_up (y - p) q z (ltb-true 0 q (e ∙ n)));
        keeps = λ q z e c. sided (eqb (q + (y - p)) (z + 0)) (ltb 0 z) true c ∙ sym n;
      }

  pub dif_up : p < y → TokenFor p y (record { base = 73; size = y - p; up = y - p; down = 0; dif = true })
  dif_up g = up_record 73 (lit≤ tt) (omega arith) (rw (ne_eqb (top 9 (y - p)) 0 (λ z. let w = top_some 9 (y - p) (omega arith) in omega arith)) refl)

  pub dif_same : y ≡ p → TokenFor p y (record { base = 37; size = 0; up = 0; down = 0; dif = true })
  dif_same e =
      let z : y - p ≡ 0 = omega arith in
      rw z at (up_record 37 (lit≤ tt) (omega arith) (rw z (unfold top in refl)))

  pub dif_down : y < p → TokenFor p y (record { base = 105; size = p - y; up = 0; down = p - y; dif = true })
  unfolding token_text numeral number
  dif_down g =
      let f = form_down p y k h g in
      let n = pos_true y k in
      record {
        text = rw f refl;
        base = lit≤ tt;
        small = record { size = omega arith; up = omega arith; down = omega arith };
        dif_is = rw f refl;
        likes = λ q z e. rw f (again_down (p - y) q z (ltb-true 0 q (e ∙ n)) (omega arith));
        keeps = λ q z e c. sided (eqb (q + 0) (z + (p - y))) (ltb 0 z) true c ∙ sym n;
      }

-- ---- the lead

module _ (p y : ℕ) where
  pub lead_down : y < p → 105 ≡ lead_of p y
  unfolding lead_of
  lead_down h = rw (lt-ltb y p h) refl

  pub lead_same : y ≡ p → 37 ≡ lead_of p y
  unfolding lead_of
  lead_same e = rw (le-ltb y p (omega arith), eq-eqb y p e) refl

  pub lead_up : p < y → 73 ≡ lead_of p y
  unfolding lead_of
  lead_up h = rw (le-ltb y p (omega arith), ne_eqb y p (λ e. omega arith)) refl

  -- the token by how far y is above p, and below
  pub dif_either : 0 < p → p < 4294967296 → 0 < y → y < 4294967296
      → TokenFor p y (record { base = lead_of p y; size = (y - p) + (p - y); up = y - p; down = p - y; dif = true })
  dif_either h a k b =
      by_case (λ _. Either) (ltb y p)
      (λ c. let g = ltb-true y p c in let u : y - p ≡ 0 = omega arith in rw (← lead_down g, u, zero-add (p - y)) (dif_down p y h a k b g))
      (λ c. let f = ltb-false y p c in by_case (λ _. Either) (ltb p y)
      (λ d. let g = ltb-true p y d in let u : p - y ≡ 0 = omega arith in rw (← lead_up g, u, add-zero (y - p)) (dif_up p y h a k b g))
      (λ d. let g : y ≡ p = omega (arith, ltb-false p y d) in let u : y - p ≡ 0 = omega arith in let v : p - y ≡ 0 = omega arith in rw (← lead_same g, u, v) (dif_same p y h a k b g)))
    where
      Either : Type 0
      Either = TokenFor p y (record { base = lead_of p y; size = (y - p) + (p - y); up = y - p; down = p - y; dif = true })

-- ---- is_again

pub again_not : (t : Token) (q z : ℕ) → (q + t.up ≡ z + t.down → ⊥) → false ≡ again t q z
again_not t q z h = rw (ne_eqb (q + t.up) (z + t.down) h) refl

pub again_so : (t : Token) (q z : ℕ) → q + t.up ≡ z + t.down → beq (ltb 0 z) t.dif ≡ again t q z
again_so t q z h = rw (eq-eqb (q + t.up) (z + t.down) h) refl

-- ---- copies

-- the loop of `copies_of`: k is where it has come to, after q
pub record Copies (ys : List ℕ) (start : ℕ) (t : Token) (p q k : ℕ) : Type 0 where
  pub on : start ≤ k
  pub inside : k ≤ length ys
  pub small : q < 4294967296
  pub left : run t p (drop start ys) ≡ (k - start) + run t q (drop k ys)

module _ (ys : List ℕ) (start : ℕ) (t : Token) (p : ℕ) where
  pub copies_start : p < 4294967296 → start ≤ length ys → Copies ys start t p p start
  copies_start h l = record { on = omega arith; inside = l; small = h; left = omega arith }

  module _ {q k : ℕ} (c : Copies ys start t p q k) where
    module _ (z : ℕ) (l : k < length ys) (e : z ≡ get_or ys k 0) where
      pub copies_more : z < 4294967296 → again t q z ≡ true → Copies ys start t p z (k + 1)
      copies_more b s =
          let on = c.on in let left = c.left in
          let r : run t q (z ∷ drop (suc k) ys) ≡ suc (run t z (drop (suc k) ys)) = unfold run in rw s refl in
          let d : drop k ys ≡ z ∷ drop (suc k) ys = rw e (drop-cons ys k 0 l) in
          let m = ap (run t q) d in
          record { on = omega arith; inside = omega arith; small = b; left = rw (add-one k) (omega arith) }

      pub copies_stop : again t q z ≡ false → (k - start ≡ run t p (drop start ys)) × (start + (k - start) ≤ length ys)
      copies_stop s =
          let on = c.on in let left = c.left in
          let r : run t q (z ∷ drop (suc k) ys) ≡ 0 = unfold run in rw s refl in
          let d : drop k ys ≡ z ∷ drop (suc k) ys = rw e (drop-cons ys k 0 l) in
          let m = ap (run t q) d in
          (omega arith, omega arith)

    pub copies_out : length ys ≤ k → (k - start ≡ run t p (drop start ys)) × (start + (k - start) ≤ length ys)
    copies_out l =
        let on = c.on in let left = c.left in let inside = c.inside in
        let r : run t q [] ≡ 0 = unfold run in refl in
        let m = ap (run t q) (drop_of_length-le ys l) in
        (omega arith, omega arith)

run_many : {p y : ℕ} {t : Token} → TokenFor p y t → (q : ℕ) (zs : List ℕ) → ltb 0 q ≡ ltb 0 y → run t q zs ≡ many (form p y) q zs
unfolding run many
run_many k q [] h = refl
run_many {p} {y} {t} k q (z ∷ zs) h =
    by_case (λ b. again t q z ≡ b → pick b (suc (run t z zs)) 0 ≡ pick (alike (form p y) (form q z)) (suc (many (form p y) z zs)) 0) (again t q z)
    (λ _ e. rw (sym (k.likes q z h) ∙ e) (ap suc (run_many k z zs (k.keeps q z h e))))
    (λ _ e. rw (sym (k.likes q z h) ∙ e) refl) refl

-- ---- a group

pub found : (ys : List ℕ) (i p y more digits rest : ℕ) (t : Token) → y ≡ get_or ys i 0 → TokenFor p y t → more ≡ run t y (drop (i + 1) ys) → i + 1 + more ≤ length ys
    → digits ≡ further 9 t.size → (rest ≡ length (dup_text more)) × (rest ≤ 10)
    → Found ys i p (record { base = t.base; size = t.size; digits = digits; more = more; width = 1 + digits + rest; dif = t.dif })
unfolding group
found ys i p y more digits rest t e k m l d r =
    let n : more ≡ count_at ys i p = m ∙ run_many k y (drop (i + 1) ys) refl ∙ rw e refl in
    let x : group_at ys i p ≡ number t.base t.size ++ dup_text more = rw (← e, ← k.text, m ∙ run_many k y (drop (i + 1) ys) refl) refl in
    record {
      text = x;
      base = k.base;
      size = k.small.size;
      digits = d;
      more_is = n;
      width_is = let z = r.0 in omega (arith, ap length x, length-append (number t.base t.size) (dup_text more), number_length t.base t.size);
      dif_is = k.dif_is ∙ rw e refl;
      inside = l;
      slim = omega (arith, r.1, further_le 9 t.size);
    }
