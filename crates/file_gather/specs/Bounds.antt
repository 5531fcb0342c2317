-- Bounds of the seven records, which callers need. Assumes nothing.
use Rattle.std.specs.Prelude.{ℕ, Option, Some, None}
use Rattle.file_marks.specs.Spans.{Within}
use Rattle.file_spec.specs.declared.Needed.{Needed}

-- each of the seven texts lies in the file
pub record AllWithin (len : ℕ) (t : Needed) : Type 0 where
  pub xfactor : Within len t.xfactor
  pub yfactor : Within len t.yfactor
  pub firstx : Within len t.firstx
  pub lastx : Within len t.lastx
  pub npoints : Within len t.npoints
  pub firsty : Within len t.firsty
  pub xydata : Within len t.xydata

-- where none is lacking
abbrev pub GatheredIn : ℕ → Option Needed → Type 0
GatheredIn len (Some t) = AllWithin len t
GatheredIn len None = Unit
