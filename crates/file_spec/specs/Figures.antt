-- 01, "The file", "Numbers": the numbers of the six records, and the quotients that they make. Assumes nothing.
use Rattle.std.specs.Prelude.{Bool, true, false, List, ℕ, zero, suc, ◌+◌, ◌*◌, ◌^◌, ltb, eqb, ℤ, pos, negsuc, length, Option, Some, None, Result, Ok, Err}
use Rattle.terms.specs.Logic.{pick, both}
use Rattle.label_spec.specs.Space.{past_space}
use Rattle.table_spec.specs.Frame.{largest_abscissa, zero_ordinate}
use Rattle.table_spec.specs.Values.{signed}
use Rattle.decimal_spec.specs.Number.{number_at, count_at}
use Rattle.decimal_spec.specs.Quotient.{quotient_of}
use Rattle.decimal_spec.specs.declared.Quotient.{Quotient}
use Rattle.file_spec.specs.declared.Needed.{Needed}
use Rattle.file_spec.specs.declared.Decimal.{Decimal}
use Rattle.file_spec.specs.declared.Numbers.{Numbers}
use Rattle.file_spec.specs.declared.Exactness.{Exactness}
use Rattle.file_spec.specs.Texts.{text_in, mark_of}
use Rattle.decimal_spec.specs.declared.Number.{Number}
use Rattle.decimal_spec.specs.declared.Count.{Count}
use Rattle.decimal_spec.specs.declared.Whole.{Whole}
use Rattle.decimal_spec.specs.Parts.{count_with}

-- ---- 26: "Blanks, line ends and comments around"

-- only those stand from j on to the end of the text p
abbrev pub ends_there : List ℕ → ℕ → Bool
ends_there p j = eqb (past_space p j) (length p)

unfoldable pub alone : List ℕ → Option Number → Option Decimal
alone p None = None
alone p (Some x) = pick (ends_there p x.end) (Some (record { minus = x.minus; mantissa = x.mantissa; power = x.power })) None

-- the number that a text is
unfoldable pub decimal_in : List ℕ → Option Decimal
decimal_in p = alone p (number_at p (past_space p 0))

-- "XFACTOR and YFACTOR exceed zero"
unfoldable pub exceeding : Option Decimal → Option Decimal
exceeding None = None
exceeding (Some d) = pick (both (pick d.minus false true) (ltb 0 d.mantissa)) (Some d) None

-- NPOINTS
unfoldable pub alone_count : List ℕ → Option Count → Option Count
alone_count p None = None
alone_count p (Some x) = pick (ends_there p x.end) (Some (count_with x.value x.end)) None

unfoldable pub count_in : List ℕ → Option Count
count_in p = alone_count p (count_at p (past_space p 0))

abbrev pub with_decimal : ℕ → Option Decimal → (Decimal → Result Numbers ℕ) → Result Numbers ℕ
with_decimal a None f = Err a
with_decimal a (Some d) f = f d

abbrev pub with_count : ℕ → Option Count → (ℕ → Result Numbers ℕ) → Result Numbers ℕ
with_count a None f = Err a
with_count a (Some x) f = f x.value

-- "26 in the order that 25 lists"
unfoldable pub figures_of : List ℕ → Needed → Result Numbers ℕ
figures_of s t =
    with_decimal (mark_of s t.xfactor) (exceeding (decimal_in (text_in s t.xfactor))) (λ xf.
    with_decimal (mark_of s t.yfactor) (exceeding (decimal_in (text_in s t.yfactor))) (λ yf.
    with_decimal (mark_of s t.firstx) (decimal_in (text_in s t.firstx)) (λ fx.
    with_decimal (mark_of s t.lastx) (decimal_in (text_in s t.lastx)) (λ lx.
    with_count (mark_of s t.npoints) (count_in (text_in s t.npoints)) (λ n.
    with_decimal (mark_of s t.firsty) (decimal_in (text_in s t.firsty)) (λ fy.
    Ok (record { xfactor = xf; yfactor = yf; firstx = fx; lastx = lx; npoints = n; firsty = fy })))))))

-- ---- quotients: of a decimal by a factor above zero, in units of ten to the -k

unfoldable pub ratio : ℕ → Decimal → Decimal → Quotient
ratio k d c = quotient_of largest_abscissa d.minus (d.mantissa * 10 ^ (d.power + k)) (c.mantissa * 10 ^ c.power)

-- "F is FIRSTX/XFACTOR and L is LASTX/XFACTOR, to the nearest thousandth"
abbrev pub abscissa_of : Decimal → Decimal → Quotient
abscissa_of d c = ratio 3 d c

-- a size with its sign
abbrev pub whole : Bool → ℕ → ℤ
whole true zero = pos 0
whole true (suc n) = negsuc n
whole false n = pos n

-- "The first ordinate, unless missing, equals FIRSTY/YFACTOR rounded likewise to a whole number": the ordinate stands as y + 2^31, a missing one as 0
unfoldable pub equals : ℕ → Option Whole → Bool
equals u (Some x) = eqb u (signed zero_ordinate x.minus x.size)
equals u None = false

abbrev pub agrees : ℕ → Option Whole → Bool
agrees u r = pick (eqb u 0) true (equals u r)

-- ---- 02, T-08: "The file reader's answer carries that for F, L and FIRSTY (exact if not compared)"

-- of three quotients, where the first ordinate is u: a missing one is not compared
abbrev pub exact_with : Bool → Bool → Bool → ℕ → Exactness
exact_with f l y u = record { first = f; last = l; firsty = pick (eqb u 0) true y }

-- of the quotients that the numbers of a file make
abbrev pub exactness_of : Numbers → ℕ → Exactness
exactness_of n u = exact_with (abscissa_of n.firstx n.xfactor).exact (abscissa_of n.lastx n.xfactor).exact (ratio 0 n.firsty n.yfactor).exact u
