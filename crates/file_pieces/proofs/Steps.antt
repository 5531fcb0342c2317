-- Bytes in a row, and decimals. No place of the code is named here. Assumes nothing.
use mathlib.Core.Path.{◌≡◌, sym, ap, ◌∙◌}
use mathlib.Core.Bool.{true, false}
use mathlib.Core.List.{List, ◌∷◌}
use Prim.Native.Nat.{ℕ, suc, ◌+◌, ◌-◌, ◌≤◌, ◌<◌}
use native.Mathlib.Omega.{arith}
use native.Mathlib.Numerals.{add-one}
use lib.ListN.{length, get_or, drop, set, drop_of_length-le}
use lib.Seq.{sets, drop-cons}
use borrow.Author.Tests.{le-leb, lt-leb}
use Rattle.table_spec.specs.Groups.{plain_text}
use Rattle.table_text.specs.Pieces.{Put, number, put_then, put_byte}
use Rattle.file_spec.specs.declared.Decimal.{Decimal}
use Rattle.file_write_spec.specs.Decimals.{two_digits}
use Rattle.file_pieces.specs.Decimals.{power_text, text_of}

-- ---- bytes in a row: what is left from the place i on

pub bytes_again : (out l s : List ℕ) (at i : ℕ) → i < length s → sets out (at + i) (drop i s) ≡ l → sets (set out (at + i) (get_or s i 0)) (at + (i + 1)) (drop (i + 1) s) ≡ l
bytes_again out l s at i h e =
    let k : at + (i + 1) ≡ suc (at + i) = omega arith in
    rw (k, add-one i) (ap (λ (x : List ℕ). sets out (at + i) x) (sym (drop-cons s i 0 h)) ∙ e)

pub bytes_end : (out l s : List ℕ) (at i : ℕ) → length s ≤ i → sets out (at + i) (drop i s) ≡ l → out ≡ l
bytes_end out l s at i h e = ap (λ (x : List ℕ). sets out (at + i) x) (sym (drop_of_length-le s h)) ∙ e

-- ---- decimals

pub count_put : {o o' : List ℕ} {at r : ℕ} (v : ℕ) → Put o at o' r (number 48 v) → Put o at o' r (plain_text v)
unfolding number plain_text
count_put v a = a

module _ {o o' o'' : List ℕ} {at r : ℕ} (p : ℕ) (e : o' ≡ set o at 69) where
  pub power_up : 200 ≤ p → Put o' (at + 1) o'' r (43 ∷ two_digits (p - 200)) → Put o at o'' r (power_text p) × (r ≤ at + 4)
  unfolding power_text
  power_up h x = (rw (le-leb 200 p h) (put_then (put_byte at 69 e) x), omega (arith, x.next))

  pub power_down : p < 200 → Put o' (at + 1) o'' r (45 ∷ two_digits (200 - p)) → Put o at o'' r (power_text p) × (r ≤ at + 4)
  unfolding power_text
  power_down h x = (rw (lt-leb 200 p h) (put_then (put_byte at 69 e) x), omega (arith, x.next))

module _ {o o' o'' : List ℕ} {at e r : ℕ} (d : Decimal) where
  pub decimal_plain : d.minus ≡ false → Put o at o' e (plain_text d.mantissa) → Put o' e o'' r (power_text d.power) → Put o at o'' r (text_of d)
  unfolding text_of
  decimal_plain h x y = rw h (put_then x y)

  pub decimal_minus : {q : List ℕ} → d.minus ≡ true → q ≡ set o at 45 → Put q (at + 1) o' e (plain_text d.mantissa) → Put o' e o'' r (power_text d.power) → Put o at o'' r (text_of d)
  unfolding text_of
  decimal_minus h z x y = rw h (put_then (put_then (put_byte at 45 z) x) y)
