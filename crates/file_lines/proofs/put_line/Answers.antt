-- `file_lines::put_line` meets its contract: label, text, CR LF.
use Prim.Native.Nat.{◌-◌}
use native.Mathlib.Omega.{arith}
use Rattle.file_lines.proofs.Steps.{line_put}
use Rattle.file_lines.proofs.put_line.Goals as goal

pub returns : goal.returns
returns c =
    let one = c.put_label-a.ensures in let two = c.put_bytes-b.ensures in let last = c.put_end.ensures in
    (line_put c.args.name.now c.args.text.now one.0 two last, omega (arith, one.1, two.next, last.next, c.requires.1))
