-- `text_groups::dup_bytes` meets its contract: the place after a DUP that is put where nothing is lent.
use native.Mathlib.Omega.{arith}
use Rattle.text_groups.proofs.dup_bytes.Goals as goal

pub returns : goal.returns
returns c = let d = c.put_dup.ensures in (omega (arith, d.0.next), omega (arith, d.1))
