-- 16 is given for a line over 80 bytes and for nothing else, and 81 bytes of the line and the byte after them decide it (02, T-06). Assumes nothing.
use Rattle.std.specs.Prelude.{◌≡◌, List, ◌∷◌, ◌++◌, ℕ, ◌+◌, ◌≤◌}
use Rattle.std.proofs.Common.{arith}
use Rattle.std.proofs.Math.Bool.{true}
use Rattle.std.proofs.Math.ListN.{length}
use Rattle.table_spec.specs.Reading.{all_short, long_at, long_line}
use Rattle.place_on.specs.Sixteen.{long_on}

-- a body whose line at z is too long: no text with the same first bytes, 81 of that line and the byte after them, has short lines only
pub long_decided : (x s t : List ℕ) (y z : ℕ) → z + 81 ≤ length x → long_line true 0 (x ++ y ∷ s) ≡ long_at z → long_line true 0 (x ++ y ∷ t) ≡ all_short → ⊥
long_decided x s t y z l e f = long_on y true 0 x s t z (omega arith) e f
