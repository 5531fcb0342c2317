-- The records of a data block and what they say, in place and in the cut: the same, each place further on.
use Rattle.std.specs.Prelude.{◌≡◌, Bool, true, false, List, ℕ, ◌+◌, ◌-◌, ◌≤◌, leb, ℤ, length, get_or, take, drop, Option, Some, None, Result, Ok, Err}
use Rattle.std.proofs.Math.Path.{refl}
use Rattle.std.proofs.Common.{arith}
use Rattle.std.proofs.Math.Nat.{add_assoc}
use Rattle.terms.specs.Logic.{pick}
use Rattle.table_spec.specs.Reading.{Answer, refuse, accept, read_table}
use Rattle.label_spec.specs.declared.Span.{Span}
use Rattle.file_spec.specs.declared.Needed.{Needed}
use Rattle.file_spec.specs.declared.Decimal.{Decimal}
use Rattle.file_spec.specs.declared.Numbers.{Numbers}
use Rattle.file_spec.specs.Texts.{text_in, with_text, mark_in, mark_of, listed_in}
use Rattle.file_spec.specs.Figures.{decimal_in, count_in, exceeding, with_decimal, with_count, figures_of, ratio, abscissa_of, whole, agrees, exactness_of}
use Rattle.file_spec.specs.File.{FileAnswer, refuse_file, accept_file, in_file, by_first, by_table, by_last, by_abscissas, by_list, by_figures, by_records}
use Rattle.file_spec.specs.File.{table_by, last_by, abscissas_by, list_by, figures_by, records_by}
use Rattle.compound_spec.specs.Cut.{shifted}
use Rattle.compound_law.specs.Carry.{shift_found, found_in}
use Rattle.decimal_spec.specs.declared.Count.{Count}
use Rattle.decimal_spec.specs.declared.Whole.{Whole}

abbrev pub shift_span : ℕ → Span → Span
shift_span d t = record { from = d + t.from; to = d + t.to }

abbrev pub shift_needed : ℕ → Needed → Needed
shift_needed d t =
    record {
      xfactor = shift_span d t.xfactor;
      yfactor = shift_span d t.yfactor;
      firstx = shift_span d t.firstx;
      lastx = shift_span d t.lastx;
      npoints = shift_span d t.npoints;
      firsty = shift_span d t.firsty;
      xydata = shift_span d t.xydata;
    }

abbrev pub shift_gathered : ℕ → Option Needed → Option Needed
shift_gathered d None = None
shift_gathered d (Some t) = Some (shift_needed d t)

abbrev pub shift_figures : ℕ → Result Numbers ℕ → Result Numbers ℕ
shift_figures d (Err a) = Err (d + a)
shift_figures d (Ok n) = Ok n

-- A span, and seven of them, within a text of this length.
pub record Inside (len : ℕ) (t : Span) : Type 0 where
  pub low : t.from ≤ t.to
  pub high : t.to ≤ len

pub record AllInside (len : ℕ) (t : Needed) : Type 0 where
  pub xfactor : Inside len t.xfactor
  pub yfactor : Inside len t.yfactor
  pub firstx : Inside len t.firstx
  pub lastx : Inside len t.lastx
  pub npoints : Inside len t.npoints
  pub firsty : Inside len t.firsty
  pub xydata : Inside len t.xydata

abbrev pub GatheredIn : ℕ → Option Needed → Type 0
GatheredIn len None = Unit
GatheredIn len (Some t) = AllInside len t

-- One more record, in place, in the cut, and within it.
pub with_text_lem : (d : ℕ) (f : Option Span) (g h : Span → Option Needed) → ((t : Span) → g (shift_span d t) ≡ shift_gathered d (h t)) → with_text (shift_found d f) g ≡ shift_gathered d (with_text f h)
with_text_lem d (Some x) g h e = e (record { from = x.from; to = x.to })
with_text_lem d None g h e = refl

pub with_in : (len : ℕ) (f : Option Span) (g : Span → Option Needed) → found_in len f → ((t : Span) → Inside len t → GatheredIn len (g t)) → GatheredIn len (with_text f g)
with_in len (Some x) g h e = e (record { from = x.from; to = x.to }) (record { low = h.0; high = h.1 })
with_in len None g h e = tt

pick_file : (d : ℕ) (t : Bool) (a b : FileAnswer) → pick t (shifted d a) (shifted d b) ≡ shifted d (pick t a b)
pick_file d true a b = refl
pick_file d false a b = refl

with_decimal_lem : (d a : ℕ) (x : Option Decimal) (g h : Decimal → Result Numbers ℕ) → ((v : Decimal) → g v ≡ shift_figures d (h v)) → with_decimal (d + a) x g ≡ shift_figures d (with_decimal a x h)
with_decimal_lem d a None g h e = refl
with_decimal_lem d a (Some v) g h e = e v

with_count_lem : (d a : ℕ) (x : Option Count) (g h : ℕ → Result Numbers ℕ) → ((v : ℕ) → g v ≡ shift_figures d (h v)) → with_count (d + a) x g ≡ shift_figures d (with_count a x h)
with_count_lem d a None g h e = refl
with_count_lem d a (Some x) g h e = e x.value

-- The file s holds the text u from m on.
module _ (s u : List ℕ) (m : ℕ)
    (text : (a b : ℕ) → a ≤ length u → b ≤ length u → take (m + b - (m + a)) (drop (m + a) s) ≡ take (b - a) (drop a u)) where
  module _ (t : Span) (i : Inside (length u) t) where
    -- the text of a record is the same
    text_cut : text_in s (shift_span m t) ≡ text_in u t
    text_cut = text t.from t.to (omega (arith, i.low, i.high)) i.high

    mark_cut : mark_of s (shift_span m t) ≡ m + mark_of u t
    unfolding mark_of
    mark_cut = rw text_cut (add_assoc m t.from (mark_in (text_in u t)))

  module _ (t : Needed) (i : AllInside (length u) t) where
    -- 26
    figures_cut : figures_of s (shift_needed m t) ≡ shift_figures m (figures_of u t)
    unfolding figures_of
    figures_cut =
        rw (
          mark_cut t.xfactor i.xfactor,
          mark_cut t.yfactor i.yfactor,
          mark_cut t.firstx i.firstx,
          mark_cut t.lastx i.lastx,
          mark_cut t.npoints i.npoints,
          mark_cut t.firsty i.firsty,
          text_cut t.xfactor i.xfactor,
          text_cut t.yfactor i.yfactor,
          text_cut t.firstx i.firstx,
          text_cut t.lastx i.lastx,
          text_cut t.npoints i.npoints,
          text_cut t.firsty i.firsty,
        )
        (with_decimal_lem m _ (exceeding (decimal_in (text_in u t.xfactor))) _ _ (λ xf.
        with_decimal_lem m _ (exceeding (decimal_in (text_in u t.yfactor))) _ _ (λ yf.
        with_decimal_lem m _ (decimal_in (text_in u t.firstx)) _ _ (λ fx.
        with_decimal_lem m _ (decimal_in (text_in u t.lastx)) _ _ (λ lx.
        with_count_lem m _ (count_in (text_in u t.npoints)) _ _ (λ n.
        with_decimal_lem m _ (decimal_in (text_in u t.firsty)) _ _ (λ fy. refl)))))))

    module _ (space : ℕ) (n : Numbers) where
      -- 1 to 13, and 29
      in_file_lem : (start c a : ℕ) → in_file (m + start) c a ≡ pick (leb c 2) 0 (m + in_file start c a)
      in_file_lem start c a = cases (leb c 2)
        where
          cases : (q : Bool) → pick q 0 (m + start + a) ≡ pick q 0 (m + pick q 0 (start + a))
          cases true = refl
          cases false = add_assoc m start a

      first_cut : (f l : ℤ) (start : ℕ) (r : Answer) → by_first s space (shift_needed m t) n f l (m + start) r ≡ shifted m (by_first u space t n f l start r)
      unfolding by_first
      first_cut f l start (refuse c a) = rw (in_file_lem start c a) refl
      first_cut f l start (accept ys) =
          rw (mark_cut t.firsty i.firsty)
          (pick_file m (agrees (get_or ys 0 0) (ratio 0 n.firsty n.yfactor).rounded)
          (accept_file (record { points = n.npoints; first = f; last = l; exact = exactness_of n (get_or ys 0 0) }) ys) (refuse_file 29 (mark_of u t.firsty)))

      module _ (start : ℕ) where
        table_cut : (f l : ℤ) → by_table s space (shift_needed m t) n start f l ≡ shifted m (by_table u space t n start f l)
        unfolding table_by
        table_cut f l =
            rw (text_cut t.xydata i.xydata, add_assoc m t.xydata.from start)
            (first_cut f l (t.xydata.from + start) (read_table f l n.npoints (drop start (text_in u t.xydata)) space))

        -- 28
        last_cut : (f : ℤ) (r : Option Whole) → by_last s space (shift_needed m t) n start f r ≡ shifted m (by_last u space t n start f r)
        unfolding last_by
        last_cut f None = rw (mark_cut t.lastx i.lastx) refl
        last_cut f (Some x) = table_cut f (whole x.minus x.size)

        abscissas_cut : (r : Option Whole) → by_abscissas s space (shift_needed m t) n start r ≡ shifted m (by_abscissas u space t n start r)
        unfolding abscissas_by
        abscissas_cut None = rw (mark_cut t.firstx i.firstx) refl
        abscissas_cut (Some x) = last_cut (whole x.minus x.size) (abscissa_of n.lastx n.xfactor).rounded

      -- 27
      listed_cut : (r : Option ℕ) → by_list s space (shift_needed m t) n r ≡ shifted m (by_list u space t n r)
      unfolding list_by
      listed_cut None = rw (mark_cut t.xydata i.xydata) refl
      listed_cut (Some start) = abscissas_cut start (abscissa_of n.firstx n.xfactor).rounded

    figured_cut : (space : ℕ) (r : Result Numbers ℕ) → by_figures s space (shift_needed m t) (shift_figures m r) ≡ shifted m (by_figures u space t r)
    unfolding figures_by
    figured_cut space (Err a) = refl
    figured_cut space (Ok n) = rw (text_cut t.xydata i.xydata) (listed_cut space n (listed_in (text_in u t.xydata)))

  -- From 25 on: END's `##` stands at x in the cut.
  pub records_cut : (space x : ℕ) (r : Option Needed) → GatheredIn (length u) r → by_records s space (m + x) (shift_gathered m r) ≡ shifted m (by_records u space x r)
  unfolding records_by
  records_cut space x None i = refl
  records_cut space x (Some t) i = rw (figures_cut t i) (figured_cut t i space (figures_of u t))
