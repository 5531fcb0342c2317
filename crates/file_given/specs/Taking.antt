-- 26 as the writer asks it, in the order of the records (02, T-04). Assumes nothing.
use Rattle.std.specs.Prelude.{ℕ, Option, Some, None, Result, Ok}
use Rattle.terms.specs.Logic.{pick}
use Rattle.file_spec.specs.declared.Decimal.{Decimal}
use Rattle.file_spec.specs.Figures.{exceeding, with_decimal}
use Rattle.file_write_spec.specs.declared.GivenDecimal.{GivenDecimal}
use Rattle.file_write_spec.specs.declared.Scales.{Scales}
use Rattle.file_write_spec.specs.Decimals.{decimal_of, decimal_taken}
use Rattle.file_spec.specs.declared.Numbers.{Numbers}

-- the decimal that the caller gives, if it is taken
unfoldable pub given_of : GivenDecimal → Option Decimal
given_of d = pick (decimal_taken d) (Some (decimal_of d)) None

-- from FIRSTX on; a refusal of the writer stands at place 0
unfoldable pub from_firstx : Scales → ℕ → Decimal → Decimal → Result Numbers ℕ
from_firstx c n xf yf =
    with_decimal 0 (given_of c.firstx) (λ fx. with_decimal 0 (given_of c.lastx) (λ lx. with_decimal 0 (given_of c.firsty) (λ fy.
    Ok (record { xfactor = xf; yfactor = yf; firstx = fx; lastx = lx; npoints = n; firsty = fy }))))

-- the numbers that the file says, or that one of them is outside its rule
unfoldable pub figures_for : Scales → ℕ → Result Numbers ℕ
figures_for c n = with_decimal 0 (exceeding (given_of c.xfactor)) (λ xf. with_decimal 0 (exceeding (given_of c.yfactor)) (λ yf. from_firstx c n xf yf))
