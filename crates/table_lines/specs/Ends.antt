-- What the functions on blanks, comments and ends of lines ensure. Assumes nothing.
use Rattle.std.specs.Prelude.{◌≡◌, Bool, List, ℕ, suc, ◌+◌, ◌-◌, ◌<◌, ◌≤◌, ltb, length, get_or, drop, Option, Some, None}
use Rattle.terms.specs.Logic.{pick}
use Rattle.alphabet_spec.specs.Kinds.{tabs_too}
use Rattle.alphabet_spec.specs.Bytes.{kind}
use Rattle.alphabet_spec.specs.Entries.{entry_at}
use Rattle.table_spec.specs.Reading.{Ending as EndRead, ends, none, ending, over, fault, line, comment, fresh, inner}
use Rattle.table_lines.specs.Seen.{seen, here}
use Rattle.table_lines.specs.declared.Start.{Start}
use Rattle.table_lines.specs.declared.Start.TheVariants as start

-- a blank (entry 112) stands at each place from i up to r, and none at r: reading goes on alike from there, before a head and after it
pub record Blanked (s : List ℕ) (i r : ℕ) : Type 0 where
  pub low : i ≤ r
  pub high : r ≤ length s
  pub all : (k : ℕ) → i ≤ k → k < r → entry_at s k ≡ 112
  pub before : seen s i fresh ≡ seen s r fresh
  pub within : here s i ≡ here s r
  pub stops : entry_at s r ≡ 112 → ⊥

-- 01, "`$$` starts a comment that runs to the line's end": after its `$$`, at i, it runs up to r, its LF counted in
pub record Commented (s : List ℕ) (i r : ℕ) : Type 0 where
  pub low : i ≤ r
  pub high : r ≤ length s
  pub is : comment (drop i s) ≡ r - i

-- a line's end whose first byte stands at i, as the code answers it: the place after all its bytes
abbrev pub end_of : ℕ → EndRead → Option ℕ
end_of i (ends n) = Some (suc i + n)
end_of i none = None

-- 01, "Lines end with LF or CR LF; the end of the body also ends one": what stands at the place i, by the definition of reading, is the one answer there
unfoldable pub end_at : List ℕ → ℕ → Option ℕ
end_at s i = pick (ltb i (length s)) (end_of i (ending (kind tabs_too (get_or s i 0)) (drop (suc i) s))) (Some i)

-- a line's end stands at i, and the next line at j, which is further on but at the end of the body: before a head the line is passed over, within a line it is the line's end
pub record LineOver (s : List ℕ) (i j : ℕ) : Type 0 where
  pub low : i ≤ j
  pub high : j ≤ length s
  pub moves : i < length s → i < j
  pub before : seen s i fresh ≡ seen s j fresh
  pub within : (q : Bool) → seen s i (inner q) ≡ line (seen s j fresh)
  pub is : end_at s i ≡ Some j

-- that; or a byte that cannot stand there
abbrev pub Ended : List ℕ → ℕ → Option ℕ → Type 0
Ended s i (Some j) = LineOver s i j
Ended s i None = (seen s i fresh ≡ fault 3 i) × ((q : Bool) → seen s i (inner q) ≡ fault 3 i) × (end_at s i ≡ None)

-- a line's first token stands at the place j: the entry e there is below a point's (160), and no blank's (112)
pub record LineOpens (s : List ℕ) (j e : ℕ) : Type 0 where
  pub inside : j < length s
  pub stands : e ≡ entry_at s j
  pub before_point : e < 160
  pub no_blank : e ≡ 112 → ⊥

-- the next line that is not passed over starts at j, with the entry e; or the body ends; or a byte cannot stand where it does. What is left to read shows the place j
-- itself, as that of a head, of what is none (4), or of such a byte (3)
abbrev pub Started : List ℕ → ℕ → Start → Type 0
Started s i (start.Head j e) = (i ≤ j) × LineOpens s j e × (seen s i fresh ≡ seen s j fresh)
Started s i start.End = seen s i fresh ≡ over (length s)
Started s i (start.Bad j) = seen s i fresh ≡ fault 3 j
