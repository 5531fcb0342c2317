-- `file_pieces::put_decimal` meets its contract: a sign only if it is negative, digits, exponent.
use native.Mathlib.Omega.{arith}
use Rattle.file_pieces.proofs.Steps.{decimal_minus, decimal_plain}
use Rattle.file_pieces.proofs.put_decimal.Goals as goal

pub returns-then-d : goal.returns-then-d
returns-then-d c = (
  decimal_minus _ c.if-d.true c.put.ensures c.put_count-e.ensures.0 c.put_power.ensures.0,
  omega (arith, c.put_count-e.ensures.1, c.put_power.ensures.1),
)

pub returns : goal.returns
returns c =
    let one = c.put_count-e-2.ensures in let last = c.put_power-2.ensures in
    (decimal_plain _ c.if-d.false one.0 last.0, omega (arith, one.1, last.1))
