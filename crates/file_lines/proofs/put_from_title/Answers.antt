-- `file_lines::put_from_title` meets its contract: the three lines of its records.
use native.Mathlib.Omega.{arith}
use Rattle.label_spec.specs.Names.{TITLE}
use Rattle.file_lines.proofs.Steps.{three}
use Rattle.file_lines.proofs.put_from_title.Goals as goal

pub returns : goal.returns
unfolding TITLE
returns c =
    let one = c.put_line-a.ensures in let two = c.put_decimal_line-b.ensures in let last = c.put_decimal_line.ensures in
    (three _ _ _ one.0 two.0 last.0, omega (arith, one.1, two.1, last.1))
