-- `text_thousandths::fraction_length` meets its contract: the place after thousandths that are put where nothing is lent.
use native.Mathlib.Omega.{arith}
use Rattle.text_thousandths.proofs.fraction_length.Goals as goal

pub returns : goal.returns
returns c = let f = c.put_fraction.ensures in (omega (arith, f.0.next), omega (arith, f.1))
