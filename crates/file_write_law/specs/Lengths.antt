-- How long a written file is: its body and at most 253 bytes, in lines of at most 80 (01, "At most 1,048,576 bytes"; 02, T-04 and T-06). Assumes nothing.
use Rattle.std.specs.Prelude.{◌≡◌, Bool, true, false, ℕ, suc, ◌+◌, ◌^◌, ◌≤◌, ◌<◌, ltb, leb, ℤ, pos, negsuc, nat_abs, length}
use Rattle.std.proofs.Math.Path.{refl}
use Rattle.std.proofs.Common.{ltb-true, leb-true}
use mathlib.Core.List.{List, []}
use native.Mathlib.Omega.{arith}
use Rattle.std.proofs.Math.ListN.{length-append}
use Rattle.terms.specs.Logic.{pick, both, both_true, no_way}
use Rattle.label_spec.specs.Names.{TITLE, END}
use Rattle.table_spec.specs.Groups.{plain_text}
use Rattle.table_write_law.specs.Numbers.{low_length}
use Rattle.decimal_spec.specs.Number.{bound}
use Rattle.file_write_spec.specs.declared.GivenDecimal.{GivenDecimal}
use Rattle.file_write_spec.specs.declared.Scales.{Scales}
use Rattle.file_write_spec.specs.Records.{crlf}
use Rattle.file_write_spec.specs.Decimals.{mantissa_text, exponent_text, decimal_text, negative, decimal_taken, factor_taken}
use Rattle.file_write_spec.specs.File.{printable, dollars, title_legal, scales_legal, file_entries, file_text}
use Rattle.file_write_law.specs.Texts.{entries_length}
use Rattle.file_write_law.specs.Settled.{OneLine, title_line}

-- ---- what is asked of the parts, taken apart

-- a title
pub record TitleFits (t : List ℕ) : Type 0 where
  pub short : length t ≤ 72
  pub one : OneLine t

pub title_fits : (t : List ℕ) → title_legal t ≡ true → TitleFits t
unfolding title_legal
title_fits t h =
    let a = both_true (leb (length t) 72) (both (printable t) (pick (dollars t) false true)) h in
    let b = both_true (printable t) (pick (dollars t) false true) a.1 in
    record { short = leb-true (length t) 72 a.0; one = title_line t b.0 }

-- the five decimals
pub record ScalesFit (c : Scales) : Type 0 where
  pub xfactor : factor_taken c.xfactor ≡ true
  pub yfactor : factor_taken c.yfactor ≡ true
  pub firstx : decimal_taken c.firstx ≡ true
  pub lastx : decimal_taken c.lastx ≡ true
  pub firsty : decimal_taken c.firsty ≡ true

pub scales_fit : (c : Scales) → scales_legal c ≡ true → ScalesFit c
unfolding scales_legal
scales_fit c h =
    let x = decimal_taken c.firstx in let y = decimal_taken c.lastx in let z = decimal_taken c.firsty in
    let a = both_true (factor_taken c.xfactor) (both (factor_taken c.yfactor) (both x (both y z))) h in
    let b = both_true (factor_taken c.yfactor) (both x (both y z)) a.1 in
    let d = both_true x (both y z) b.1 in
    let e = both_true y z d.1 in
    record { xfactor = a.0; yfactor = b.0; firstx = d.0; lastx = e.0; firsty = e.1 }

-- ---- numbers

pub plain_length : (k v : ℕ) → k ≤ 9 → v < 10 ^ suc k → length (plain_text v) ≤ suc k
unfolding plain_text
plain_length k v l h = omega (arith, low_length 9 k v [] l h)

-- a mantissa: nine digits, and a sign only if it is negative
mantissa_most : (m : ℤ) → nat_abs m < bound → length (mantissa_text m) ≤ 9 + pick (negative m) 1 0
unfolding mantissa_text
mantissa_most (pos v) h = omega (arith, plain_length 8 v (omega arith) h)
mantissa_most (negsuc v) h = omega (arith, plain_length 8 (suc v) (omega arith) h)

exponent_is : (e : ℤ) → length (exponent_text e) ≡ 4
unfolding exponent_text
exponent_is (pos x) = refl
exponent_is (negsuc x) = refl

sign_most : (q : Bool) → pick q 1 0 ≤ 1
sign_most true = omega arith
sign_most false = omega arith

signless : (q : Bool) → pick q false true ≡ true → pick q 1 0 ≤ 0
signless true h = no_way h
signless false h = omega arith

decimal_length : (d : GivenDecimal) → decimal_taken d ≡ true → length (decimal_text d) ≤ 13 + pick (negative d.mantissa) 1 0
unfolding decimal_text decimal_taken
decimal_length d h =
    let a = both_true (ltb (nat_abs d.mantissa) bound) (ltb (nat_abs d.exponent) 100) h in
    let m = mantissa_most d.mantissa (ltb-true (nat_abs d.mantissa) bound a.0) in
    omega (arith, length-append (mantissa_text d.mantissa) (exponent_text d.exponent), m, exponent_is d.exponent)

pub decimal_most : (d : GivenDecimal) → decimal_taken d ≡ true → length (decimal_text d) ≤ 14
decimal_most d h = omega (arith, decimal_length d h, sign_most (negative d.mantissa))

pub factor_most : (d : GivenDecimal) → factor_taken d ≡ true → length (decimal_text d) ≤ 13
unfolding factor_taken
factor_most d h =
    let a = both_true (decimal_taken d) (both (pick (negative d.mantissa) false true) (ltb 0 (nat_abs d.mantissa))) h in
    let b = both_true (pick (negative d.mantissa) false true) (ltb 0 (nat_abs d.mantissa)) a.1 in
    omega (arith, decimal_length d a.0, signless (negative d.mantissa) b.0)

-- ---- the file

module _ (title : List ℕ) (c : Scales) (n : ℕ) (body : List ℕ) (t : TitleFits title) (d : ScalesFit c) (few : n ≤ 65536) where
  pub count_most : length (plain_text n) ≤ 5
  count_most = plain_length 4 n (omega arith) (omega arith)

  pub file_most : length (file_text title c n body) ≤ length body + 253
  unfolding file_text TITLE END
  file_most =
      let short = t.short in
      omega (
        arith,
        count_most,
        entries_length (file_entries title c n body) 0,
        length-append title crlf,
        length-append (decimal_text c.xfactor) crlf,
        factor_most c.xfactor d.xfactor,
        length-append (decimal_text c.yfactor) crlf,
        factor_most c.yfactor d.yfactor,
        length-append (decimal_text c.firstx) crlf,
        decimal_most c.firstx d.firstx,
        length-append (decimal_text c.lastx) crlf,
        decimal_most c.lastx d.lastx,
        length-append (plain_text n) crlf,
        length-append (decimal_text c.firsty) crlf,
        decimal_most c.firsty d.firsty,
      )
