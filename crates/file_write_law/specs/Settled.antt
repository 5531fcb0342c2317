-- No line of a written text begins with `#`, and each text ends a line: so no label ends a text too early, and each stands first on its line. Assumes nothing.
use Rattle.std.specs.Prelude.{◌≡◌, true, List, [], ◌∷◌, ◌++◌, ℕ, suc, ◌+◌, ◌/◌, ◌%◌, leb, ℤ, pos, negsuc}
use Rattle.std.proofs.Common.{arith, leb-true}
use Rattle.terms.specs.Logic.{both, both_true}
use Rattle.table_spec.specs.Groups.{plain_text}
use Rattle.table_write_law.proofs.EightyBytes.{Ordinary, high, Each, Above, joined, plain_above}
use Rattle.file_write_spec.specs.declared.GivenDecimal.{GivenDecimal}
use Rattle.file_write_spec.specs.Decimals.{mantissa_text, exponent_text, decimal_text}
use Rattle.file_write_spec.specs.File.{printable}

-- ---- one line: no CR and no LF stands in it

abbrev pub OneLine : List ℕ → Type 0
OneLine t = Each Ordinary t

above_line : (t : List ℕ) → Above t → OneLine t
above_line [] h = tt
above_line (b ∷ t) h = let k = h.0.0 in let o : Ordinary b = (λ e. omega arith, λ e. omega arith) in (o, above_line t h.1)

-- a title is one line
pub title_line : (t : List ℕ) → printable t ≡ true → OneLine t
unfolding printable
title_line [] h = tt
title_line (b ∷ t) h =
    let k = both_true (both (leb 32 b) (leb b 126)) (printable t) h in
    let l = leb-true 32 b (both_true (leb 32 b) (leb b 126) k.0).0 in
    let o : Ordinary b = (λ e. omega arith, λ e. omega arith) in
    (o, title_line t k.1)

-- and so are a count
pub count_line : (v : ℕ) → OneLine (plain_text v)
count_line v = above_line (plain_text v) (plain_above v)

mantissa_above : (m : ℤ) → Above (mantissa_text m)
unfolding mantissa_text
mantissa_above (pos v) = plain_above v
mantissa_above (negsuc v) = (high 45 (omega arith), plain_above (suc v))

exponent_above : (e : ℤ) → Above (exponent_text e)
unfolding exponent_text
exponent_above (pos x) = (high 69 (omega arith), (high 43 (omega arith), (high (48 + x / 10) (omega arith), (high (48 + x % 10) (omega arith), tt))))
exponent_above (negsuc x) = (high 69 (omega arith), (high 45 (omega arith), (high (48 + suc x / 10) (omega arith), (high (48 + suc x % 10) (omega arith), tt))))

-- and a decimal
pub decimal_line : (d : GivenDecimal) → OneLine (decimal_text d)
unfolding decimal_text
decimal_line d =
    above_line (mantissa_text d.mantissa ++ exponent_text d.exponent)
    (joined (mantissa_text d.mantissa) (exponent_text d.exponent) (mantissa_above d.mantissa) (exponent_above d.exponent))
