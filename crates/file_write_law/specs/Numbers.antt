-- The written numbers of a file are read as what they are (01, "Numbers"; 02, T-04). Assumes nothing.
use Rattle.std.specs.Prelude.{◌≡◌, refl, true, false, ◌⊎◌, ℕ, suc, ◌+◌, ◌-◌, ◌*◌, ◌/◌, ◌%◌, ◌≤◌, ◌<◌, ltb, ℤ, pos, negsuc, nat_abs, length, get_or, drop, Some}
use Rattle.std.proofs.Common.{sym, ap, ◌∙◌, subst, inl, inr, div-add-mod', lit<, lit≤, length-drop, ltb-true, eq-eqb}
use mathlib.Core.List.{List, [], ◌∷◌, ◌++◌, append_assoc}
use native.Mathlib.Omega.{arith}
use Rattle.std.proofs.Math.Nat.{sub-zero}
use Rattle.terms.specs.Logic.{pick, both, both_true}
use Rattle.alphabet_spec.specs.SpelledDigits.{SpelledDigits, none, more}
use Rattle.label_spec.specs.Names.{blank}
use Rattle.label_spec.specs.Space.{space, opens, past, past_at, past_space}
use Rattle.label_spec.specs.SpaceLaws.{past_stop, space_none, opens_no}
use Rattle.table_spec.specs.Frame.{lift}
use Rattle.table_spec.specs.Numerals.{top, low}
use Rattle.table_spec.specs.Groups.{plain_text}
use Rattle.table_write_law.specs.Numbers.{digits, top_small}
use Rattle.decimal_spec.specs.Number.{bound, origin}
use Rattle.decimal_spec.specs.Spelling.{SpelledMantissa, whole, SpelledExponent, up, down, SpelledNumber, plain, minus, SpelledCount, only}
use Rattle.decimal_spec.proofs.SpellingLaws.{Ends, number_read, count_read}
use Rattle.file_spec.specs.Figures.{ends_there, alone, decimal_in, exceeding, alone_count, count_in}
use Rattle.file_write_spec.specs.declared.GivenDecimal.{GivenDecimal}
use Rattle.file_write_spec.specs.Records.{crlf}
use Rattle.file_write_spec.specs.Decimals.{two_digits, mantissa_text, exponent_text, decimal_text, negative, decimal_of, decimal_taken, factor_taken}
use Rattle.decimal_spec.specs.Parts.{count_with}

-- ---- what is written is spelled

module _ {s : List ℕ} where
  -- the digits of a number
  digits_spelled : (v : ℕ) → v < bound → (n : ℕ) × (n ≤ 8) × SpelledDigits (suc n) 0 v (plain_text v ++ s) s
  unfolding plain_text
  digits_spelled v h =
      let y = digits {s = s} 9 8 v v 0 [] (omega arith) h none in
      let z : v < 10000000000 = omega arith in
      let e : 0 * 10 + top 9 v ≡ top 9 v = omega arith in
      let x : SpelledDigits y.0 (0 * 10 + top 9 v) v (low 9 v [] ++ s) s = rw e y.2 in
      (y.0, omega (arith, y.1), more (top_small 9 v z) x)

  two_spelled : (x : ℕ) → x < 100 → SpelledDigits 2 0 x (two_digits x ++ s) s
  two_spelled x h =
      let e : (0 * 10 + x / 10) * 10 + x % 10 ≡ x = omega (arith, div-add-mod' x 10) in
      subst (λ (w : ℕ). SpelledDigits 2 0 w (two_digits x ++ s) s) e (more (omega arith) (more (omega arith) none))

  exponent_spelled : (e : ℤ) → nat_abs e < 100 → SpelledExponent (lift origin e) (exponent_text e ++ s) s
  unfolding exponent_text
  exponent_spelled (pos x) h = up (lit< tt) (lit≤ tt) h (two_spelled x h)
  exponent_spelled (negsuc x) h = down (lit< tt) (lit≤ tt) h (two_spelled (suc x) h)

  size_spelled : (v : ℕ) → v < bound → SpelledMantissa v 0 (plain_text v ++ s) s
  size_spelled v h = let y = digits_spelled v h in let l = y.1 in whole {n = suc y.0} (omega arith) (omega arith) h y.2

  count_spelled : (v : ℕ) → v < bound → SpelledCount v (plain_text v ++ s) s
  count_spelled v h = let y = digits_spelled v h in let l = y.1 in only {n = suc y.0} (omega arith) (omega arith) h y.2

mantissa_spelled : {p : ℕ} {u s : List ℕ} (m : ℤ) → nat_abs m < bound → SpelledExponent p u s → SpelledNumber (negative m) (nat_abs m) p (mantissa_text m ++ u) s
unfolding mantissa_text
mantissa_spelled {p} {u} {s} (pos v) h x = subst (λ (k : ℕ). SpelledNumber false v k (plain_text v ++ u) s) (sub-zero p) (plain (size_spelled v h) x)
mantissa_spelled {p} {u} {s} (negsuc v) h x = subst (λ (k : ℕ). SpelledNumber true (suc v) k (45 ∷ (plain_text (suc v) ++ u)) s) (sub-zero p) (minus (size_spelled (suc v) h) x)

-- ---- a number and CR LF, as the text of a record

-- a byte above `$` is no space
begins : (b : ℕ) (s : List ℕ) → 36 < b → past_space (b ∷ s) 0 ≡ 0
begins b s h =
    let n : (b ≡ 9) ⊎ (b ≡ 32) → ⊥ = either in
    past_stop (b ∷ s) 0 (omega arith) (sym (space_none b (λ e. omega arith) n)) (sym (opens_no b (get_or s 0 0) (λ e. omega arith) (λ e. omega arith)))
  where
    either : (b ≡ 9) ⊎ (b ≡ 32) → ⊥
    either (inl e) = omega arith
    either (inr e) = omega arith

mantissa_begins : (m : ℤ) (u : List ℕ) → past_space (mantissa_text m ++ u) 0 ≡ 0
unfolding mantissa_text plain_text
mantissa_begins (pos v) u = begins (48 + top 9 v) (low 9 v [] ++ u) (omega arith)
mantissa_begins (negsuc v) u = begins 45 (plain_text (suc v) ++ u) (lit< tt)

digits_begin : (v : ℕ) (u : List ℕ) → past_space (plain_text v ++ u) 0 ≡ 0
unfolding plain_text
digits_begin v u = begins (48 + top 9 v) (low 9 v [] ++ u) (omega arith)

-- only CR LF stands from j on
ends_there_lem : (p : List ℕ) (j : ℕ) → drop j p ≡ crlf → ends_there p j ≡ true
unfolding past_at past space blank opens
ends_there_lem p j e =
    let k : length crlf ≡ length p - j = sym (ap length e) ∙ length-drop j p in
    let l : j + 1 + 1 ≡ length p = omega arith in
    rw e (eq-eqb (j + 1 + 1) (length p) l)

ends_crlf : Ends crlf
ends_crlf = record { no_digit = refl; no_point = λ z. omega arith; no_exponent = λ z. omega arith }

-- a decimal that is taken is read as it is
pub decimal_in_lem : (d : GivenDecimal) → decimal_taken d ≡ true → decimal_in (decimal_text d ++ crlf) ≡ Some (decimal_of d)
unfolding decimal_in decimal_text decimal_taken alone
decimal_in_lem d t =
    let h = both_true (ltb (nat_abs d.mantissa) bound) (ltb (nat_abs d.exponent) 100) t in
    let m = ltb-true (nat_abs d.mantissa) bound h.0 in
    let x = ltb-true (nat_abs d.exponent) 100 h.1 in
    let u = exponent_text d.exponent ++ crlf in
    let p = mantissa_text d.mantissa ++ u in
    let r = number_read p 0 (mantissa_spelled d.mantissa m (exponent_spelled d.exponent x)) refl ends_crlf in
    rw (append_assoc (mantissa_text d.mantissa) (exponent_text d.exponent) crlf, mantissa_begins d.mantissa u, r.1, ends_there_lem p r.0 r.2) refl

pub factor_in : (d : GivenDecimal) → factor_taken d ≡ true → exceeding (decimal_in (decimal_text d ++ crlf)) ≡ Some (decimal_of d)
unfolding factor_taken exceeding
factor_in d t =
    let h = both_true (decimal_taken d) (both (pick (negative d.mantissa) false true) (ltb 0 (nat_abs d.mantissa))) t in
    rw (decimal_in_lem d h.0, h.1) refl

-- and so is a count
pub count_in_lem : (v : ℕ) → v < bound → (j : ℕ) × (count_in (plain_text v ++ crlf) ≡ Some (count_with v j))
unfolding count_in alone_count
count_in_lem v h =
    let p = plain_text v ++ crlf in
    let r = count_read p 0 (count_spelled v h) refl refl in
    (r.0, rw (digits_begin v crlf, r.1, ends_there_lem p r.0 r.2) refl)
