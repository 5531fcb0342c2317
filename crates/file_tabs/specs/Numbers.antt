-- T-13: the numbers of a file are the same where each tab of their texts is a space. Assumes nothing.
use Rattle.std.specs.Prelude.{◌≡◌, refl, Bool, true, false, List, [], ◌∷◌, ℕ, ◌+◌, ◌-◌, drop, Option, Some, None}
use Rattle.alphabet_spec.specs.Digits.{Run, long, run, digits}
use Rattle.decimal_spec.specs.Number.{most_digits, before_point, mantissa_at, exponent_at, unsigned, number_at, count_at}
use Rattle.label_spec.specs.Space.{past_space}
use Rattle.table_tabs.specs.Converted.{more_same}
use Rattle.file_spec.specs.declared.Needed.{Needed}
use Rattle.file_spec.specs.Texts.{text_in}
use Rattle.file_spec.specs.Figures.{alone, decimal_in, alone_count, count_in, figures_of}
use Rattle.file_tabs.specs.Headers.{untabbed, tab_or_same, length_untabbed, drop_untabbed, same_byte, same_past_at, text_untabbed, same_mark}
use Rattle.decimal_spec.specs.declared.Mantissa.{Mantissa}
use Rattle.decimal_spec.specs.declared.Number.{Number}
use Rattle.decimal_spec.specs.declared.Count.{Count}

same_digits : (s : List ℕ) (m v n : ℕ) → digits (untabbed s) m v n ≡ digits s m v n
unfolding digits untabbed
same_digits [] m v n = refl
same_digits (b ∷ s) m v n =
    tab_or_same (λ x y. digits (x ∷ untabbed s) m v n ≡ digits (y ∷ s) m v n) b refl
    (rw (more_same (digits (untabbed s)) (digits s) m v n (b - 48) (same_digits s)) refl)

digits_from : (s : List ℕ) (i m v n : ℕ) → digits (drop i (untabbed s)) m v n ≡ digits (drop i s) m v n
digits_from s i m v n = rw (drop_untabbed i s) (same_digits (drop i s) m v n)

-- ---- numbers

same_before : (s : List ℕ) (i : ℕ) (r : Run) → before_point (untabbed s) i r ≡ before_point s i r
unfolding before_point
same_before s i long = refl
same_before s i (run v k) = rw (same_byte s (i + k) 46 refl refl, digits_from s (i + k + 1) (most_digits - k) v 0) refl

same_mantissa : (s : List ℕ) (i : ℕ) → mantissa_at (untabbed s) i ≡ mantissa_at s i
unfolding mantissa_at
same_mantissa s i = rw (digits_from s i most_digits 0 0) (same_before s i (digits (drop i s) most_digits 0 0))

same_exponent : (s : List ℕ) (i : ℕ) → exponent_at (untabbed s) i ≡ exponent_at s i
unfolding exponent_at
same_exponent s i =
    rw (same_byte s i 69 refl refl, same_byte s (i + 1) 43 refl refl, same_byte s (i + 1) 45 refl refl, digits_from s (i + 2) 3 0 0) refl

same_unsigned : (s : List ℕ) (minus : Bool) (x : Option Mantissa) → unsigned (untabbed s) minus x ≡ unsigned s minus x
unfolding unsigned
same_unsigned s minus None = refl
same_unsigned s minus (Some x) = rw (same_exponent s x.end) refl

same_number : (s : List ℕ) (i : ℕ) → number_at (untabbed s) i ≡ number_at s i
unfolding number_at
same_number s i =
    rw (
      same_byte s i 43 refl refl,
      same_byte s i 45 refl refl,
      same_mantissa s (i + 1),
      same_mantissa s i,
      same_unsigned s false (mantissa_at s (i + 1)),
      same_unsigned s true (mantissa_at s (i + 1)),
      same_unsigned s false (mantissa_at s i),
    ) refl

same_count_at : (s : List ℕ) (i : ℕ) → count_at (untabbed s) i ≡ count_at s i
unfolding count_at
same_count_at s i = rw (digits_from s i most_digits 0 0) refl

-- ---- the texts that are numbers

same_alone : (p : List ℕ) (x : Option Number) → alone (untabbed p) x ≡ alone p x
unfolding alone
same_alone p None = refl
same_alone p (Some x) = rw (same_past_at p x.end false, length_untabbed p) refl

same_decimal : (p : List ℕ) → decimal_in (untabbed p) ≡ decimal_in p
unfolding decimal_in
same_decimal p = rw (same_past_at p 0 false, same_number p (past_space p 0)) (same_alone p (number_at p (past_space p 0)))

same_alone_count : (p : List ℕ) (x : Option Count) → alone_count (untabbed p) x ≡ alone_count p x
unfolding alone_count
same_alone_count p None = refl
same_alone_count p (Some x) = rw (same_past_at p x.end false, length_untabbed p) refl

same_count : (p : List ℕ) → count_in (untabbed p) ≡ count_in p
unfolding count_in
same_count p = rw (same_past_at p 0 false, same_count_at p (past_space p 0)) (same_alone_count p (count_at p (past_space p 0)))

-- 26, for each of the six
pub same_figures : (s : List ℕ) (t : Needed) → figures_of (untabbed s) t ≡ figures_of s t
unfolding figures_of
same_figures s t =
    rw (
      same_mark s t.xfactor,
      same_mark s t.yfactor,
      same_mark s t.firstx,
      same_mark s t.lastx,
      same_mark s t.npoints,
      same_mark s t.firsty,
      text_untabbed s t.xfactor,
      text_untabbed s t.yfactor,
      text_untabbed s t.firstx,
      text_untabbed s t.lastx,
      text_untabbed s t.npoints,
      text_untabbed s t.firsty,
      same_decimal (text_in s t.xfactor),
      same_decimal (text_in s t.yfactor),
      same_decimal (text_in s t.firstx),
      same_decimal (text_in s t.lastx),
      same_count (text_in s t.npoints),
      same_decimal (text_in s t.firsty),
    ) refl
