-- `file_lines::put_heading` meets its contract: its three parts, one after the other.
use native.Mathlib.Omega.{arith}
use Rattle.file_lines.specs.Lines.{from_title, from_firstx, from_firsty}
use Rattle.file_lines.proofs.Steps.{entries_then}
use Rattle.file_lines.proofs.put_heading.Goals as goal

pub returns : goal.returns
returns c =
    let a = c.args in
    let one = c.put_from_title-a.ensures in let two = c.put_from_firstx-b.ensures in let last = c.put_from_firsty.ensures in (
      entries_then (from_title a.title.now a.n) _ one.0 (entries_then (from_firstx a.n) (from_firsty a.n) two.0 last.0),
      omega (arith, one.1, two.1, last.1),
    )
