-- `file_lines::put_label` meets its contract: `##`, the name, `=`.
use Prim.Native.Nat.{◌-◌}
use native.Mathlib.Omega.{arith}
use Rattle.file_lines.proofs.Steps.{label_put}
use Rattle.file_lines.proofs.put_label.Goals as goal

pub returns : goal.returns
returns c =
    let name = c.put_bytes-e.ensures in (
      label_put _ c.args.name.now c.put.ensures c.put-2.ensures name c.put-3.ensures,
      omega (arith, name.next, c.requires.0),
    )
