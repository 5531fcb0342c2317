-- `file_lines::put_from_firsty` meets its contract: the two lines of its records.
use native.Mathlib.Omega.{arith}
use Rattle.file_lines.proofs.Steps.{two}
use Rattle.file_lines.proofs.put_from_firsty.Goals as goal

pub returns : goal.returns
returns c =
    let one = c.put_decimal_line-a.ensures in let last = c.put_line.ensures in
    (two _ _ one.0 last.0, omega (arith, one.1, last.1))
