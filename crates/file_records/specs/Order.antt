-- The six numbers in the order that 25 lists (01, "The file"). Assumes nothing.
use Rattle.std.specs.Prelude.{List, ℕ, Result, Ok}
use Rattle.file_spec.specs.declared.Needed.{Needed}
use Rattle.file_spec.specs.declared.Decimal.{Decimal}
use Rattle.file_spec.specs.Figures.{decimal_in, count_in, with_decimal, with_count}
use Rattle.file_spec.specs.Texts.{text_in, mark_of}
use Rattle.file_spec.specs.declared.Numbers.{Numbers}

-- 26 from NPOINTS on, after the numbers before it
unfoldable pub from_npoints : List ℕ → Needed → Decimal → Decimal → Decimal → Decimal → Result Numbers ℕ
from_npoints s t xf yf fx lx =
    with_count (mark_of s t.npoints) (count_in (text_in s t.npoints)) (λ n.
    with_decimal (mark_of s t.firsty) (decimal_in (text_in s t.firsty)) (λ fy.
    Ok (record { xfactor = xf; yfactor = yf; firstx = fx; lastx = lx; npoints = n; firsty = fy })))

-- 26 from FIRSTX on, after the factors
unfoldable pub from_firstx : List ℕ → Needed → Decimal → Decimal → Result Numbers ℕ
from_firstx s t xf yf =
    with_decimal (mark_of s t.firstx) (decimal_in (text_in s t.firstx)) (λ fx.
    with_decimal (mark_of s t.lastx) (decimal_in (text_in s t.lastx)) (λ lx. from_npoints s t xf yf fx lx))
