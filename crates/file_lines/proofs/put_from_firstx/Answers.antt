-- `file_lines::put_from_firstx` meets its contract: the three lines of its records.
use native.Mathlib.Omega.{arith}
use Rattle.file_lines.proofs.Steps.{three}
use Rattle.file_lines.proofs.put_from_firstx.Goals as goal

pub returns : goal.returns
returns c =
    let one = c.put_decimal_line-a.ensures in let two = c.put_decimal_line-b.ensures in let last = c.put_count_line.ensures in
    (three _ _ _ one.0 two.0 last.0, omega (arith, one.1, two.1, last.1))
