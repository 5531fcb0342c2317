-- A file that is accepted has a table that is accepted: N ordinates, at most 65,536, and room for them. Assumes nothing.
use Rattle.std.specs.Prelude.{◌≡◌, true, false, List, ℕ, suc, ◌+◌, ◌≤◌, leb, eqb, ℤ, length, get_or, Option, Some, None, Result, Ok, Err}
use Rattle.std.proofs.Math.Path.{refl}
use Rattle.std.proofs.Math.ListN.{drop}
use Rattle.std.proofs.Common.{leb-true}
use Rattle.terms.specs.Logic.{pick, both, by_case, both_true}
use Rattle.table_spec.specs.Frame.{most_points, frame_legal, abscissa_legal, points_legal, abscissa}
use Rattle.table_spec.specs.Reading.{Answer, refuse, accept, read_table}
use Rattle.table_law.proofs.Outcome.{accepted_allowed, accepted_count, accepted_small}
use Rattle.table_law.specs.Small.{Small}
use Rattle.label_spec.specs.File.{labelled}
use Rattle.file_spec.specs.declared.Needed.{Needed}
use Rattle.file_spec.specs.declared.Numbers.{Numbers}
use Rattle.file_spec.specs.declared.FileTable.{FileTable}
use Rattle.file_spec.specs.Texts.{gathered_from, text_in, mark_of, listed_in}
use Rattle.file_spec.specs.Figures.{figures_of, ratio, abscissa_of, whole, agrees, exactness_of}
use Rattle.file_spec.specs.File.{FileAnswer, refuse_file, accept_file, by_first, table_by, last_by, abscissas_by, list_by, figures_by, records_by, labels_by, read_file_by, read_file}
use Rattle.label_spec.specs.declared.Places.{Places}
use Rattle.decimal_spec.specs.declared.Whole.{Whole}
use Rattle.terms.specs.declared.Fault.{Fault}

-- a table of n points with these ordinates, each below 2^32 as y + 2^31, and room for them
pub record Holds (space n : ℕ) (ys : List ℕ) : Type 0 where
  pub count : length ys ≡ n
  pub room : n ≤ space
  pub most : n ≤ most_points
  pub small : Small ys

-- what holds of an answer: if it accepts, its table has so many ordinates
abbrev pub Good : ℕ → FileAnswer → Type 0
Good space (refuse_file c a) = Unit {0}
Good space (accept_file t ys) = Holds space t.points ys

legal_most : (f l : ℤ) (n : ℕ) → frame_legal f l n ≡ true → n ≤ most_points
unfolding frame_legal
legal_most f l n e =
    let last = pick (eqb n 1) (eqb (abscissa f) (abscissa l)) (pick (eqb (abscissa f) (abscissa l)) false true) in
    let all = points_legal (abscissa f) (abscissa l) n in
    let some = (both_true (abscissa_legal l) all (both_true (abscissa_legal f) (both (abscissa_legal l) all) e).1).1 in
    leb-true n most_points (both_true (leb n most_points) last (both_true (leb 1 n) (both (leb n most_points) last) some).1).0

table_holds : (f l : ℤ) (n : ℕ) (p : List ℕ) (space : ℕ) (ys : List ℕ) → read_table f l n p space ≡ accept ys → Holds space n ys
table_holds f l n p space ys e =
    let a = accepted_allowed f l n p space ys e in
    record { count = accepted_count f l n p space ys e; room = a.room; most = legal_most f l n a.frame; small = accepted_small f l n p space ys e }

-- ---- stage by stage

module _ (s : List ℕ) (space : ℕ) where
  good_first : (t : Needed) (n : Numbers) (f l : ℤ) (start : ℕ) (p : List ℕ) (x : Answer) → read_table f l n.npoints p space ≡ x → Good space (by_first s space t n f l start x)
  unfolding by_first
  good_first t n f l start p (refuse c a) e = tt
  good_first t n f l start p (accept ys) e =
      let table : FileTable = record { points = n.npoints; first = f; last = l; exact = exactness_of n (get_or ys 0 0) } in
      by_case (λ q. Good space (pick q (accept_file table ys) (refuse_file 29 (mark_of s t.firsty)))) (agrees (get_or ys 0 0) (ratio 0 n.firsty n.yfactor).rounded)
      (λ _. table_holds f l n.npoints p space ys e) (λ _. tt)

  good_table : (t : Needed) (n : Numbers) (start : ℕ) (f l : ℤ) → Good space (table_by read_table s space t n start f l)
  unfolding table_by
  good_table t n start f l =
      let body = drop start (text_in s t.xydata) in good_first t n f l (t.xydata.from + start) body (read_table f l n.npoints body space) refl

  good_last : (t : Needed) (n : Numbers) (start : ℕ) (f : ℤ) (r : Option Whole) → Good space (last_by read_table s space t n start f r)
  unfolding last_by
  good_last t n start f None = tt
  good_last t n start f (Some x) = good_table t n start f (whole x.minus x.size)

  good_abscissas : (t : Needed) (n : Numbers) (start : ℕ) (r : Option Whole) → Good space (abscissas_by read_table s space t n start r)
  unfolding abscissas_by
  good_abscissas t n start None = tt
  good_abscissas t n start (Some x) = good_last t n start (whole x.minus x.size) (abscissa_of n.lastx n.xfactor).rounded

  good_list : (t : Needed) (n : Numbers) (x : Option ℕ) → Good space (list_by read_table s space t n x)
  unfolding list_by
  good_list t n None = tt
  good_list t n (Some start) = good_abscissas t n start (abscissa_of n.firstx n.xfactor).rounded

  good_figures : (t : Needed) (x : Result Numbers ℕ) → Good space (figures_by read_table s space t x)
  unfolding figures_by
  good_figures t (Err a) = tt
  good_figures t (Ok n) = good_list t n (listed_in (text_in s t.xydata))

  good_records : (stop : ℕ) (x : Option Needed) → Good space (records_by read_table s space stop x)
  unfolding records_by
  good_records stop None = tt
  good_records stop (Some t) = good_figures t (figures_of s t)

  good_labels : (x : Result Places Fault) → Good space (labels_by read_table s space x)
  unfolding labels_by
  good_labels (Err r) = tt
  good_labels (Ok y) = good_records y.end (gathered_from s (suc y.eq) y.end)

  pub good_file : Good space (read_file s space)
  unfolding read_file_by
  good_file = good_labels (labelled s)
