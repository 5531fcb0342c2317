-- THE THEOREM: with what stands at the place of a refusal nothing can be right. In what a body says, and in the terms of the public reader's outcome. Assumes nothing.
-- 01, "Refusal numbers": "Reading goes left to right; the first fault decides". So no text that begins with the same bytes, as far as that fault shows, is a table.
use Rattle.std.specs.Prelude.{◌≡◌, List, ℕ, ◌+◌, ◌≤◌, ◌<◌}
use Rattle.std.proofs.Common.{sym}
use Rattle.std.proofs.Math.Bool.{false}
use Rattle.std.proofs.Math.Dec.{eqb}
use Rattle.std.proofs.Math.ListN.{length}
use Rattle.alphabet_spec.specs.Digits.{within}
use Rattle.table_spec.specs.Reading.{Answer, refuse, accept, push}
use Rattle.table_spec.specs.ReadingLaws.{no_accept}

-- the numbers of a head: it is misspelled, or fails its check
pub data OfHead : ℕ → Type 0 where
  misspelled : OfHead 4
  failing : OfHead 6

-- a body begins with the bytes x and the byte y, and is refused with the number c at the place z. These bytes decide it:
pub record Decided (x : List ℕ) (y c z : ℕ) : Type 0 where
  -- the place is one of x
  pub within_them : z < length x
  -- y is no digit, so that the token that stands there has ended before it. 3, "a byte that cannot stand there", is about no token, and 16 about a line
  pub no_digit : (c ≡ 3 → ⊥) → (c ≡ 16 → ⊥) → within 48 10 y ≡ false
  -- a head has ended if y is no point either
  pub no_point : OfHead c → eqb y 46 ≡ false
  -- 7, "only blanks or a comment between a head and its line's end": it has come if y is an LF
  pub line_ended : c ≡ 7 → y ≡ 10
  -- 16, "A body line over 80 bytes": 81 bytes of the line are among x, and y is the 82nd or one after it. Of 81 bytes alone the last may be the CR of the line's end
  pub line_long : c ≡ 16 → z + 81 ≤ length x

-- ---- what the lines say

pub push_refuse : (us : List ℕ) (x : Answer) (c z : ℕ) → push us x ≡ refuse c z → x ≡ refuse c z
unfolding push
push_refuse us (refuse d a) c z e = e
push_refuse us (accept ys) c z e = no_accept (sym e)
