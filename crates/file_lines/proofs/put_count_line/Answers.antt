-- `file_lines::put_count_line` meets its contract: label, count, CR LF.
use Prim.Native.Nat.{◌-◌}
use native.Mathlib.Omega.{arith}
use Rattle.file_lines.proofs.Steps.{line_put}
use Rattle.table_spec.specs.Groups.{plain_text}
use Rattle.file_lines.proofs.put_count_line.Goals as goal

pub returns : goal.returns
returns c =
    let a = c.args in
    let one = c.put_label-a.ensures in let two = c.put_count-b.ensures in let last = c.put_end.ensures in
    (line_put a.name.now (plain_text a.v) one.0 two.0 last, omega (arith, one.1, two.1, last.next))
