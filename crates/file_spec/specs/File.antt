-- 01, "The file": what a file says. "Order: 19; 21; then 20, 22, 23, 24 in one walk; 25; 26 in the order that 25 lists; 27; 28 (F first); 1 to 13 on the body; 29." Assumes nothing.
use Rattle.std.specs.Prelude.{List, map, ℕ, suc, ◌+◌, leb, ℤ, get_or, drop, Option, Some, None, Result, Ok, Err}
use Rattle.std.proofs.lemmas.List.Edits.{sets}
use Rattle.terms.specs.Logic.{pick}
use Rattle.terms.specs.Refusals.{fault_at, refusal_in}
use Rattle.table_spec.specs.Frame.{entry_for}
use Rattle.table_spec.specs.Reading.{Answer, refuse, accept, read_table}
use Rattle.label_spec.specs.File.{labelled}
use Rattle.file_spec.specs.declared.Needed.{Needed}
use Rattle.file_spec.specs.declared.Numbers.{Numbers}
use Rattle.file_spec.specs.declared.FileTable.{FileTable}
use Rattle.file_spec.specs.Texts.{gathered_from, text_in, mark_of, listed_in}
use Rattle.file_spec.specs.Figures.{figures_of, ratio, abscissa_of, whole, agrees, exactness_of}
use Rattle.label_spec.specs.declared.Places.{Places}
use Rattle.decimal_spec.specs.declared.Whole.{Whole}
use Rattle.terms.specs.declared.Fault.{Fault}
use Rattle.terms.specs.declared.Refusal.{Refusal}

-- what a file answers: a refusal, its number and place; or its table (N, F and L, and what is exact) and the ordinates
pub data FileAnswer : Type 0 where
  refuse_file : ℕ → ℕ → FileAnswer
  accept_file : FileTable → List ℕ → FileAnswer

-- places of the body are counted in the file, of 1 and 2 still 0
abbrev pub in_file : ℕ → ℕ → ℕ → ℕ
in_file start c a = pick (leb c 2) 0 (start + a)

module _ (s : List ℕ) (space : ℕ) where
  -- 29, after the body was read without fault
  unfoldable pub by_first : Needed → Numbers → ℤ → ℤ → ℕ → Answer → FileAnswer
  by_first t n f l start (refuse c a) = refuse_file c (in_file start c a)
  by_first t n f l start (accept ys) =
      pick (agrees (get_or ys 0 0) (ratio 0 n.firsty n.yfactor).rounded)
      (accept_file (record { points = n.npoints; first = f; last = l; exact = exactness_of n (get_or ys 0 0) }) ys) (refuse_file 29 (mark_of s t.firsty))

-- the stages by any reader of tables, as `read_table` is one and `read_before` (02, T-13): F, L and N, the body, and the room
module _ (reader : ℤ → ℤ → ℕ → List ℕ → ℕ → Answer) (s : List ℕ) (space : ℕ) where
  -- 1 to 13, and 16 (02, T-06), on the body: "from the line after the list to the next label's `##`", so the text of XYDATA from its start on
  unfoldable pub table_by : Needed → Numbers → ℕ → ℤ → ℤ → FileAnswer
  table_by t n start f l = by_first s space t n f l (t.xydata.from + start) (reader f l n.npoints (drop start (text_in s t.xydata)) space)

  -- 28, F first
  unfoldable pub last_by : Needed → Numbers → ℕ → ℤ → Option Whole → FileAnswer
  last_by t n start f None = refuse_file 28 (mark_of s t.lastx)
  last_by t n start f (Some x) = table_by t n start f (whole x.minus x.size)

  unfoldable pub abscissas_by : Needed → Numbers → ℕ → Option Whole → FileAnswer
  abscissas_by t n start None = refuse_file 28 (mark_of s t.firstx)
  abscissas_by t n start (Some x) = last_by t n start (whole x.minus x.size) (abscissa_of n.lastx n.xfactor).rounded

  -- 27
  unfoldable pub list_by : Needed → Numbers → Option ℕ → FileAnswer
  list_by t n None = refuse_file 27 (mark_of s t.xydata)
  list_by t n (Some start) = abscissas_by t n start (abscissa_of n.firstx n.xfactor).rounded

  -- 26
  unfoldable pub figures_by : Needed → Result Numbers ℕ → FileAnswer
  figures_by t (Err a) = refuse_file 26 a
  figures_by t (Ok n) = list_by t n (listed_in (text_in s t.xydata))

  -- 25, at END's `##`
  unfoldable pub records_by : ℕ → Option Needed → FileAnswer
  records_by stop None = refuse_file 25 stop
  records_by stop (Some t) = figures_by t (figures_of s t)

  -- 19, 21, and 20, 22, 23, 24 in one walk
  unfoldable pub labels_by : Result Places Fault → FileAnswer
  labels_by (Err r) = refuse_file r.number r.place
  labels_by (Ok y) = records_by y.end (gathered_from s (suc y.eq) y.end)

  -- what a file says, with room for so many ordinates
  unfoldable pub read_file_by : FileAnswer
  read_file_by = labels_by (labelled s)

-- the stages by the reader of this release
module _ (s : List ℕ) (space : ℕ) where
  abbrev pub by_table : Needed → Numbers → ℕ → ℤ → ℤ → FileAnswer
  by_table = table_by read_table s space

  abbrev pub by_last : Needed → Numbers → ℕ → ℤ → Option Whole → FileAnswer
  by_last = last_by read_table s space

  abbrev pub by_abscissas : Needed → Numbers → ℕ → Option Whole → FileAnswer
  by_abscissas = abscissas_by read_table s space

  abbrev pub by_list : Needed → Numbers → Option ℕ → FileAnswer
  by_list = list_by read_table s space

  abbrev pub by_figures : Needed → Result Numbers ℕ → FileAnswer
  by_figures = figures_by read_table s space

  abbrev pub by_records : ℕ → Option Needed → FileAnswer
  by_records = records_by read_table s space

  abbrev pub by_labels : Result Places Fault → FileAnswer
  by_labels = labels_by read_table s space

  -- what a file says, with room for so many ordinates
  abbrev pub read_file : FileAnswer
  read_file = read_file_by read_table s space

-- the answer of a stage for each of its cases
abbrev pub staged : FileAnswer → Result FileTable Fault
staged (refuse_file c a) = Err (fault_at c a)
staged (accept_file t ys) = Ok t

-- the answer to the file s for each of its cases: a refusal has its line and column in the file
abbrev pub told_file : List ℕ → FileAnswer → Result FileTable Refusal
told_file s (refuse_file c a) = Err (refusal_in s c a)
told_file s (accept_file t ys) = Ok t

-- the lent slice afterwards
abbrev pub stored_file : List ℤ → FileAnswer → List ℤ
stored_file out (refuse_file c a) = out
stored_file out (accept_file t ys) = sets out 0 (map entry_for ys)
