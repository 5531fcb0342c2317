-- `unsigned` meets its contract: mantissa and exponent put together. Assumes nothing.
use native.Mathlib.Omega.{arith}
use Rattle.decimal.proofs.Reading.{no_mantissa, bad_exponent, decimal_is}
use Rattle.decimal.proofs.unsigned.Goals as goal

pub exponent-requires : goal.exponent-requires
exponent-requires c = let x = c.in_ok-digits.ensures in x.good.2

pub overflow_sub-result : goal.overflow_sub-result
overflow_sub-result c =
    let x = c.in_ok-digits.ensures in
    let y = c.in_ok-raised.ensures in
    omega (arith, x.good.1, y.good.0)

pub returns-in_err-digits : goal.returns-in_err-digits
returns-in_err-digits c = rw c.from_residual.ensures (no_mantissa _ _ _ c.in_err-digits.ensures)

pub returns-in_err-raised : goal.returns-in_err-raised
returns-in_err-raised c =
    let x = c.in_ok-digits.ensures in
    rw c.from_residual-in_err-raised.ensures (bad_exponent _ _ _ _ _ _ x c.in_err-raised.ensures)

pub returns : goal.returns
returns c =
    let x = c.in_ok-digits.ensures in
    let y = c.in_ok-raised.ensures in
    decimal_is _ _ _ _ _ _ x _ _ y
