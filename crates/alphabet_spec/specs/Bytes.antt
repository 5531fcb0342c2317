-- What a byte of a table is (01, "Values" and "Spelling of a body"). Reading rests on this; spelling does not. Assumes nothing.
use Rattle.std.specs.Prelude.{Bool, true, false, ℕ, ◌-◌, eqb}
use Rattle.terms.specs.Logic.{pick}
use Rattle.alphabet_spec.specs.Kinds.{Lead, sqz, dif, dup}
use Rattle.alphabet_spec.specs.Digits.{within}

-- a digit; a pseudo-digit; a sign (true: minus); or a byte that stands for itself. other: outside the alphabet
pub data Byte : Type 0 where
  digit : ℕ → Byte
  lead : Lead → ℕ → Byte
  sign : Bool → Byte
  quest blank point lf cr dollar other : Byte

-- the kind and the digit of a byte; the first argument: is a tab a blank?
unfoldable pub kind : Bool → ℕ → Byte
kind tabs b =
    pick (within 48 10 b) (digit (b - 48))
    (pick (within 64 10 b) (lead (sqz false) (b - 64))
    (pick (within 97 9 b) (lead (sqz true) (b - 96))
    (pick (eqb b 37) (lead (dif false) 0)
    (pick (within 74 9 b) (lead (dif false) (b - 73))
    (pick (within 106 9 b) (lead (dif true) (b - 105))
    (pick (within 83 8 b) (lead dup (b - 82))
    (pick (eqb b 115) (lead dup 9)
    (pick (eqb b 43) (sign false)
    (pick (eqb b 45) (sign true)
    (pick (eqb b 63) quest
    (pick (eqb b 32) blank
    (pick (eqb b 46) point
    (pick (eqb b 10) lf
    (pick (eqb b 13) cr
    (pick (eqb b 36) dollar
    (pick (eqb b 9) (pick tabs blank other) other))))))))))))))))
