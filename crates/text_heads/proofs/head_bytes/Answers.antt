-- `text_heads::head_bytes` meets its contract: the place after a head that is put where nothing is lent.
use native.Mathlib.Omega.{arith}
use Rattle.text_heads.proofs.head_bytes.Goals as goal

pub returns : goal.returns
returns c = let h = c.put_head.ensures in (omega (arith, h.0.next), omega (arith, h.1))
