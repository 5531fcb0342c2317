-- `file_lines::put_decimal_line` meets its contract: label, decimal, CR LF.
use Prim.Native.Nat.{◌-◌}
use native.Mathlib.Omega.{arith}
use Rattle.file_lines.proofs.Steps.{line_put}
use Rattle.file_pieces.specs.Decimals.{text_of}
use Rattle.file_lines.proofs.put_decimal_line.Goals as goal

pub returns : goal.returns
returns c =
    let a = c.args in
    let one = c.put_label-a.ensures in let two = c.put_decimal-b.ensures in let last = c.put_end.ensures in
    (line_put a.name.now (text_of a.d) one.0 two.0 last, omega (arith, one.1, two.1, last.next))
