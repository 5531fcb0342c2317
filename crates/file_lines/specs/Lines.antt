-- The lines of a file before its body, said of its numbers as the reader has them (02, T-04). Assumes nothing.
use Rattle.std.specs.Prelude.{List, [], ◌∷◌, ◌++◌, ℕ, ◌<◌}
use Rattle.table_spec.specs.Groups.{plain_text}
use Rattle.label_spec.specs.Names.{TITLE}
use Rattle.decimal_spec.specs.Number.{bound}
use Rattle.file_spec.specs.declared.Numbers.{Numbers}
use Rattle.file_spec.specs.Texts.{XFACTOR, YFACTOR, FIRSTX, LASTX, NPOINTS, FIRSTY, XYDATA, LIST}
use Rattle.file_write_spec.specs.Records.{Entry, line}
use Rattle.file_pieces.specs.Decimals.{text_of, Writable}

-- each of the numbers
pub record AllWritable (n : Numbers) : Type 0 where
  pub xfactor : Writable n.xfactor
  pub yfactor : Writable n.yfactor
  pub firstx : Writable n.firstx
  pub lastx : Writable n.lastx
  pub npoints : n.npoints < bound
  pub firsty : Writable n.firsty

-- the records before the body, in three parts; the last is XYDATA with its list
abbrev pub from_title : List ℕ → Numbers → List Entry
from_title title n = line TITLE title ∷ line XFACTOR (text_of n.xfactor) ∷ line YFACTOR (text_of n.yfactor) ∷ []

abbrev pub from_firstx : Numbers → List Entry
from_firstx n = line FIRSTX (text_of n.firstx) ∷ line LASTX (text_of n.lastx) ∷ line NPOINTS (plain_text n.npoints) ∷ []

abbrev pub from_firsty : Numbers → List Entry
from_firsty n = line FIRSTY (text_of n.firsty) ∷ line XYDATA LIST ∷ []

abbrev pub heading_of : List ℕ → Numbers → List Entry
heading_of title n = from_title title n ++ (from_firstx n ++ from_firsty n)
