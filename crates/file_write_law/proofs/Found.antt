-- A written file has its labels, its seven records and its numbers (01, "The file"; 02, T-04). Assumes nothing.
use Rattle.std.specs.Prelude.{◌≡◌, ℕ, ◌+◌, ◌*◌, ◌≤◌, ◌<◌, length, drop, Option, Some, Ok}
use Rattle.std.proofs.Math.Path.{refl, sym, ap}
use Rattle.std.proofs.Common.{◌∙◌, drop-drop, le-leb}
use Rattle.std.proofs.Math.Bool.{true, false}
use mathlib.Core.List.{List, [], ◌∷◌, ◌++◌}
use native.Mathlib.Omega.{arith}
use Rattle.std.proofs.Math.Seq.{drop-append_seam}
use Rattle.label_spec.specs.Names.{blank, ignored, upper, norm, sames, TITLE, END}
use Rattle.label_spec.specs.Space.{space, opens, past, past_at}
use Rattle.label_spec.specs.Labels.{from, hashed}
use Rattle.label_spec.specs.File.{longest_file, titled, opened_at, opened, member, twice, judged, placed, after_title, labelled}
use Rattle.label_spec.specs.Records.{record_of}
use Rattle.decimal_spec.specs.Number.{bound}
use Rattle.table_write_law.proofs.EightyBytes.{LinedOf, Inner}
use Rattle.file_spec.specs.declared.Needed.{Needed}
use Rattle.file_spec.specs.Texts.{XFACTOR, YFACTOR, FIRSTX, LASTX, NPOINTS, FIRSTY, XYDATA, with_text, gathered_from}
use Rattle.file_spec.specs.Figures.{figures_of}
use Rattle.file_write_spec.specs.declared.Scales.{Scales}
use Rattle.file_write_spec.specs.Records.{Entry, crlf, entry_text, entries_text, line}
use Rattle.table_spec.specs.Groups.{plain_text}
use Rattle.file_write_spec.specs.Decimals.{decimal_text}
use Rattle.file_write_spec.specs.File.{title_legal, scales_legal, numbers, needed, end_line, file_entries, file_text}
use Rattle.file_write_law.specs.Labels.{plain, named, Good, AllGood, labels}
use Rattle.file_write_law.proofs.Labels.{walk_settles, records_walk}
use Rattle.file_write_law.specs.Texts.{after, nth, record_span, record_labels, Texts, texts_are}
use Rattle.file_write_law.specs.Numbers.{decimal_in_lem, factor_in, count_in_lem}
use Rattle.file_write_law.specs.Settled.{OneLine, count_line, decimal_line}
use Rattle.file_write_law.proofs.Settled.{line_settles, lined_settles}
use Rattle.file_write_law.specs.Lengths.{title_fits, scales_fit, file_most}
use Rattle.label_spec.specs.declared.Span.{Span}
use Rattle.label_spec.specs.Parts.{edges_with, places_with}

-- what is asked of the parts of a file
pub record Parts (title : List ℕ) (c : Scales) (n : ℕ) (body : List ℕ) : Type 0 where
  pub titled : title_legal title ≡ true
  pub scaled : scales_legal c ≡ true
  pub few : n ≤ 65536
  pub lined : LinedOf Inner 0 body
  pub most : length body ≤ 15 * n + 44

module _ (title : List ℕ) (c : Scales) (n : ℕ) (body : List ℕ) where
  -- the text, and where the records after TITLE's begin
  abbrev pub whole_file : List ℕ
  whole_file = file_text title c n body

  abbrev pub begin : ℕ
  begin = 8 + length (title ++ crlf)

  abbrev rest : List Entry
  rest = needed c n body ++ end_line ∷ []

  -- END's place
  abbrev pub stop : ℕ
  stop = after (needed c n body) begin

  -- ---- the records are written well

  one_line : (w t : List ℕ) → named w ≡ true → OneLine t → Good (line w t)
  one_line w t h l = record { named = h; settles = line_settles t l }

  rest_good : LinedOf Inner 0 body → AllGood rest
  unfolding named sames norm ignored blank upper plain END
  rest_good l = (
    one_line XFACTOR (decimal_text c.xfactor) refl (decimal_line c.xfactor),
    (
      one_line YFACTOR (decimal_text c.yfactor) refl (decimal_line c.yfactor),
      (
        one_line FIRSTX (decimal_text c.firstx) refl (decimal_line c.firstx),
        (
          one_line LASTX (decimal_text c.lastx) refl (decimal_line c.lastx),
          (
            one_line NPOINTS (plain_text n) refl (count_line n),
            (
              one_line FIRSTY (decimal_text c.firsty) refl (decimal_line c.firsty),
              (
                record { named = refl; settles = lined_settles l true (λ _. refl) },
                (one_line END [] refl tt, tt),
              ),
            ),
          ),
        ),
      ),
    ),
  )

  -- ---- the labels

  -- after TITLE's `=`
  pub from_title : OneLine title → LinedOf Inner 0 body → from whole_file 8 false ≡ labels rest begin
  unfolding from file_text entries_text entry_text TITLE
  from_title o l = walk_settles false (title ++ crlf) (entries_text rest) 8 (line_settles title o) ∙ records_walk rest begin (rest_good l)

  from_start : OneLine title → LinedOf Inner 0 body → from whole_file 0 true ≡ labels (file_entries title c n body) 0
  unfolding from file_text named sames norm ignored blank upper plain TITLE
  from_start o l = records_walk (file_entries title c n body) 0 (one_line TITLE title refl o, rest_good l)

  first_byte : past_at whole_file 0 false ≡ 0
  unfolding past_at past space blank opens file_text entries_text entry_text
  first_byte = refl

  title_hashed : hashed whole_file 0 ≡ true
  unfolding hashed file_text entries_text entry_text
  title_hashed = refl

  opened_is : OneLine title → LinedOf Inner 0 body → opened whole_file ≡ Ok (edges_with 0 7)
  unfolding opened opened_at titled sames TITLE
  opened_is o l = rw (first_byte, title_hashed, from_start o l) refl

  judged_is : (len : ℕ) → placed 0 7 (judged len [] (labels rest begin)) ≡ Ok (places_with 0 7 stop)
  unfolding placed judged twice member sames TITLE END
  judged_is len = refl

  -- such a file is within its limit (19)
  pub file_short : Parts title c n body → length whole_file ≤ longest_file
  file_short k =
      let few = k.few in let most = k.most in
      omega (arith, file_most title c n body (title_fits title k.titled) (scales_fit c k.scaled) few)

  title_one : Parts title c n body → OneLine title
  title_one k = (title_fits title k.titled).one

  pub labelled_is : Parts title c n body → labelled whole_file ≡ Ok (places_with 0 7 stop)
  unfolding labelled after_title
  labelled_is k =
      let o = title_one k in
      rw (le-leb (length whole_file) longest_file (file_short k), opened_is o k.lined, from_title o k.lined) (judged_is (length whole_file))

  -- ---- the seven records

  abbrev pub spans : Needed
  spans =
      record {
        xfactor = nth 0 (needed c n body) begin;
        yfactor = nth 1 (needed c n body) begin;
        firstx = nth 2 (needed c n body) begin;
        lastx = nth 3 (needed c n body) begin;
        npoints = nth 4 (needed c n body) begin;
        firsty = nth 5 (needed c n body) begin;
        xydata = nth 6 (needed c n body) begin;
      }

  gathers : (found : List ℕ → Option Span) → ((w : List ℕ) → found w ≡ record_span w (needed c n body) begin)
      → with_text (found XFACTOR) (λ xf. with_text (found YFACTOR) (λ yf. with_text (found FIRSTX) (λ fx. with_text (found LASTX) (λ lx.
      with_text (found NPOINTS) (λ np. with_text (found FIRSTY) (λ fy. with_text (found XYDATA) (λ xy.
      Some (record { xfactor = xf; yfactor = yf; firstx = fx; lastx = lx; npoints = np; firsty = fy; xydata = xy }))))))))
      ≡ Some spans
  unfolding sames
  gathers found h = rw (h XFACTOR, h YFACTOR, h FIRSTX, h LASTX, h NPOINTS, h FIRSTY, h XYDATA) refl

  pub gathered_is : Parts title c n body → gathered_from whole_file 8 stop ≡ Some spans
  unfolding gathered_from
  gathered_is k =
      gathers (λ w. record_of (length whole_file) stop w (from whole_file 8 false))
      (λ w. ap (record_of (length whole_file) stop w) (from_title (title_one k) k.lined) ∙ record_labels (length whole_file) w (needed c n body) end_line begin)

  -- ---- their texts

  from_rest : drop begin whole_file ≡ entries_text rest
  unfolding file_text entries_text entry_text TITLE
  from_rest = sym (drop-drop (length (title ++ crlf)) 8 whole_file) ∙ drop-append_seam (title ++ crlf) (entries_text rest)

  pub texts_written : Texts whole_file rest begin
  texts_written = texts_are whole_file rest begin from_rest

  -- ---- the numbers

  pub figures_are : Parts title c n body → figures_of whole_file spans ≡ Ok (numbers c n)
  unfolding figures_of
  figures_are k =
      let t = texts_written in
      let d = scales_fit c k.scaled in
      let few = k.few in
      let small : n < bound = omega arith in
      rw (
        t.0,
        factor_in c.xfactor d.xfactor,
        t.1.0,
        factor_in c.yfactor d.yfactor,
        t.1.1.0,
        decimal_in_lem c.firstx d.firstx,
        t.1.1.1.0,
        decimal_in_lem c.lastx d.lastx,
        t.1.1.1.1.0,
        (count_in_lem n small).1,
        t.1.1.1.1.1.0,
        decimal_in_lem c.firsty d.firsty,
      ) refl
