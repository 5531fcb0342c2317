-- T-13: the file that the converter makes reads as the file did before: number, place, ordinates, line and column, for all files and all room. Assumes nothing.
use Rattle.std.specs.Prelude.{◌≡◌, Bool, true, List, [], ◌∷◌, ◌++◌, ℕ, zero, suc, ◌-◌, ℤ, length, take, Option, Some, None, Result, Ok, Err}
use Rattle.std.proofs.Math.Path.{refl, sym, ap}
use Rattle.std.proofs.Common.{◌∙◌, take-append-drop}
use Rattle.std.proofs.Math.Bool.{false}
use Rattle.std.proofs.Math.ListN.{drop}
use Rattle.std.proofs.Math.Seq.{take-nil, drop-nil}
use Rattle.terms.specs.Places.{line_of, column_of}
use Rattle.table_spec.specs.Reading.{Answer, refuse, accept, read_table}
use Rattle.table_spec.specs.Tabs.{commented, changed, spaced, read_before}
use Rattle.table_tabs.specs.Converted.{converted_table}
use Rattle.label_spec.specs.File.{labelled}
use Rattle.label_spec.specs.declared.Span.{Span}
use Rattle.file_spec.specs.declared.Needed.{Needed}
use Rattle.file_spec.specs.declared.Numbers.{Numbers}
use Rattle.file_spec.specs.Texts.{text_in, mark_of, gathered_from, listed_in}
use Rattle.file_spec.specs.Figures.{figures_of, whole, abscissa_of}
use Rattle.file_spec.specs.Places.{body_from, found_at, found_in, found_between, found_body}
use Rattle.file_spec.specs.PlaceLaws.{body_is}
use Rattle.file_spec.specs.File.{FileAnswer, refuse_file, accept_file, by_first, told_file, read_file, table_by, last_by, abscissas_by, list_by, figures_by, records_by, labels_by, read_file_by}
use Rattle.file_spec.specs.Tabs.{spaced_in, detabbed_at, detabbed, read_file_before}
use Rattle.file_tabs.specs.Headers.{untabbed, tab_or_same, length_untabbed, same_line, same_column, same_labelled, same_gathered, text_untabbed, same_mark, same_listed}
use Rattle.file_tabs.specs.Numbers.{same_figures}
use Rattle.label_spec.specs.declared.Places.{Places}
use Rattle.decimal_spec.specs.declared.Whole.{Whole}
use Rattle.terms.specs.declared.Fault.{Fault}

-- ---- a converted part

-- a byte of the converter's text is a tab's space or the byte itself
untabbed_changed : (c : Bool) (b : ℕ) → changed false (changed c b) ≡ changed false b
untabbed_changed true b = refl
untabbed_changed false b = tab_or_same (λ x y. changed false x ≡ changed false y) b refl refl

untabbed_spaced : (c : Bool) (s t : List ℕ) → untabbed (spaced c s ++ t) ≡ untabbed (s ++ t)
unfolding spaced untabbed
untabbed_spaced c [] t = refl
untabbed_spaced c (b ∷ s) t = rw (untabbed_changed c b, untabbed_spaced (commented c b s) s t) refl

untabbed_after : (n : ℕ) (s t u : List ℕ) → untabbed t ≡ untabbed u → untabbed (take n s ++ t) ≡ untabbed (take n s ++ u)
unfolding untabbed
untabbed_after zero s t u e = e
untabbed_after (suc n) [] t u e = e
untabbed_after (suc n) (b ∷ s) t u e = ap (λ (l : List ℕ). changed false b ∷ l) (untabbed_after n s t u e)

untabbed_part : (s : List ℕ) (b : Span) → untabbed (spaced_in s b) ≡ untabbed s
unfolding spaced_in
untabbed_part s b =
    let p = text_in s b in
    let q = drop (b.to - b.from) (drop b.from s) in
    untabbed_after b.from s (spaced false p ++ q) (drop b.from s) (untabbed_spaced false p q ∙ ap untabbed (take-append-drop (b.to - b.from) (drop b.from s)))
    ∙ ap untabbed (take-append-drop b.from s)

-- the part, read in the converted text
part_at : (c : Bool) (n : ℕ) (s : List ℕ) → take n (spaced c (take n s) ++ drop n s) ≡ spaced c (take n s)
unfolding spaced
part_at c zero s = refl
part_at c (suc n) [] = refl
part_at c (suc n) (b ∷ s) = ap (λ (l : List ℕ). changed c b ∷ l) (part_at (commented c b (take n s)) n s)

part_after : (a n : ℕ) (s : List ℕ) → take n (drop a (take a s ++ (spaced false (take n (drop a s)) ++ drop n (drop a s)))) ≡ spaced false (take n (drop a s))
unfolding spaced
part_after zero n s = part_at false n s
part_after (suc a) n [] = rw (take-nil n, drop-nil n) (take-nil n)
part_after (suc a) n (b ∷ s) = part_after a n s

pub part_converted : (s : List ℕ) (b : Span) → text_in (spaced_in s b) b ≡ spaced false (text_in s b)
unfolding spaced_in
part_converted s b = part_after b.from (b.to - b.from) s

-- ---- every other byte is kept, and the length

pub length_part : (s : List ℕ) (b : Span) → length (spaced_in s b) ≡ length s
length_part s b = sym (length_untabbed (spaced_in s b)) ∙ ap length (untabbed_part s b) ∙ length_untabbed s

-- of a file: what stands before its body, and after it
abbrev pub Keeps : List ℕ → List ℕ → Option Span → Type 0
Keeps s s' None = s' ≡ s
Keeps s s' (Some b) = (take b.from s' ≡ take b.from s) × (drop (b.to - b.from) (drop b.from s') ≡ drop (b.to - b.from) (drop b.from s))

-- a converted file differs in tabs and spaces only
untabbed_at : (s : List ℕ) (x : Option Span) → untabbed (detabbed_at s x) ≡ untabbed s
unfolding detabbed_at
untabbed_at s None = refl
untabbed_at s (Some b) = untabbed_part s b

pub length_detabbed : (s : List ℕ) → length (detabbed s) ≡ length s
length_detabbed s = sym (length_untabbed (detabbed s)) ∙ ap length (untabbed_at s (found_body s)) ∙ length_untabbed s

-- ---- two texts that differ in tabs and spaces only, the body of the one converted in the other

abbrev Converted : List ℕ → List ℕ → Option Span → Type 0
Converted s s' None = Unit {0}
Converted s s' (Some b) = text_in s' b ≡ spaced false (text_in s b)

converted_at : (s : List ℕ) (x : Option Span) → Converted s (detabbed_at s x) x
unfolding detabbed_at
converted_at s None = tt
converted_at s (Some b) = part_converted s b

module _ (s s' : List ℕ) (e : untabbed s' ≡ untabbed s) where
  -- what a text with spaces for tabs says alike, both say alike
  alike : {A : Type 0} (f : List ℕ → A) → ((l : List ℕ) → f (untabbed l) ≡ f l) → f s' ≡ f s
  alike f h = sym (h s') ∙ ap f e ∙ h s

  alike_mark : (t : Span) → mark_of s' t ≡ mark_of s t
  alike_mark t = alike (λ l. mark_of l t) (λ l. same_mark l t)

  alike_listed : (t : Span) → listed_in (text_in s' t) ≡ listed_in (text_in s t)
  alike_listed t = alike (λ l. listed_in (text_in l t)) (λ l. ap listed_in (text_untabbed l t) ∙ same_listed (text_in l t))

  pub alike_told : (x : FileAnswer) → told_file s' x ≡ told_file s x
  alike_told (refuse_file c a) = rw (alike (λ l. line_of l a) (λ l. same_line l a), alike (λ l. column_of l a) (λ l. same_column 1 l a)) refl
  alike_told (accept_file t ys) = refl

  module _ (space : ℕ) (t : Needed) where
    same_by_first : (n : Numbers) (f l : ℤ) (start : ℕ) (x : Answer) → by_first s' space t n f l start x ≡ by_first s space t n f l start x
    unfolding by_first
    same_by_first n f l start (refuse c a) = refl
    same_by_first n f l start (accept ys) = rw (alike_mark t.firsty) refl

    same_table : (n : Numbers) (start : ℕ) (f l : ℤ) → Converted s s' (Some (body_from t start)) → table_by read_table s' space t n start f l ≡ table_by read_before s space t n start f l
    unfolding table_by
    same_table n start f l h =
        let c : drop start (text_in s' t.xydata) ≡ spaced false (drop start (text_in s t.xydata))
        = sym (body_is s' t.xydata start) ∙ h ∙ ap (spaced false) (body_is s t.xydata start) in
        rw (c, converted_table f l n.npoints (drop start (text_in s t.xydata)) space) (same_by_first n f l _ _)

    same_last : (n : Numbers) (start : ℕ) (f : ℤ) (r : Option Whole) → Converted s s' (Some (body_from t start)) → last_by read_table s' space t n start f r ≡ last_by read_before s space t n start f r
    unfolding last_by
    same_last n start f None h = rw (alike_mark t.lastx) refl
    same_last n start f (Some x) h = same_table n start f (whole x.minus x.size) h

    same_abscissas : (n : Numbers) (start : ℕ) (r : Option Whole) → Converted s s' (Some (body_from t start)) → abscissas_by read_table s' space t n start r ≡ abscissas_by read_before s space t n start r
    unfolding abscissas_by
    same_abscissas n start None h = rw (alike_mark t.firstx) refl
    same_abscissas n start (Some x) h = same_last n start (whole x.minus x.size) (abscissa_of n.lastx n.xfactor).rounded h

    same_list : (n : Numbers) (x : Option ℕ) → Converted s s' (found_at t x) → list_by read_table s' space t n x ≡ list_by read_before s space t n x
    unfolding list_by found_at
    same_list n None h = rw (alike_mark t.xydata) refl
    same_list n (Some start) h = same_abscissas n start (abscissa_of n.firstx n.xfactor).rounded h

    same_by_figures : (x : Result Numbers ℕ) → Converted s s' (found_at t (listed_in (text_in s t.xydata))) → figures_by read_table s' space t x ≡ figures_by read_before s space t x
    unfolding figures_by
    same_by_figures (Err a) h = refl
    same_by_figures (Ok n) h = rw (alike_listed t.xydata) (same_list n (listed_in (text_in s t.xydata)) h)

  same_records : (space stop : ℕ) (x : Option Needed) → Converted s s' (found_in s x) → records_by read_table s' space stop x ≡ records_by read_before s space stop x
  unfolding records_by found_in
  same_records space stop None h = refl
  same_records space stop (Some t) h = rw (alike (λ l. figures_of l t) (λ l. same_figures l t)) (same_by_figures space t (figures_of s t) h)

  same_labels : (space : ℕ) (x : Result Places Fault) → Converted s s' (found_between s x) → labels_by read_table s' space x ≡ labels_by read_before s space x
  unfolding labels_by found_between
  same_labels space (Err r) h = refl
  same_labels space (Ok y) h =
      rw (alike (λ l. gathered_from l (suc y.eq) y.end) (λ l. same_gathered l (suc y.eq) y.end)) (same_records space y.end (gathered_from s (suc y.eq) y.end) h)

  same_read : (space : ℕ) → Converted s s' (found_body s) → read_file s' space ≡ read_file_before s space
  unfolding read_file_by
  same_read space h = rw (alike labelled same_labelled) (same_labels space (labelled s) h)

-- "its output reads as the old reader read the input, numbers and places equal": for all files and all room
pub converted_file : (s : List ℕ) (space : ℕ) → read_file (detabbed s) space ≡ read_file_before s space
converted_file s space = same_read s (detabbed s) (untabbed_at s (found_body s)) space (converted_at s (found_body s))

-- with the line and the column, in the converted file as in the file
pub told_as_before : (s : List ℕ) (x : FileAnswer) → told_file (detabbed s) x ≡ told_file s x
told_as_before s x = alike_told s (detabbed s) (untabbed_at s (found_body s)) x
