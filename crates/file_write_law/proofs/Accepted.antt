-- 02, T-04: "Our reader must accept each file written and return the same ordinates, F and L"; T-08: and the same exactness.
-- Each line has at most 80 bytes, and the file is within its limit. Assumes nothing.
use Rattle.std.specs.Prelude.{◌≡◌, Bool, true, false, List, ◌++◌, ℕ, ◌+◌, ◌*◌, ◌≤◌, ltb, leb, ℤ, length, Option, Some, None}
use Rattle.std.proofs.Math.Path.{refl}
use Rattle.std.proofs.Common.{arith}
use borrow.Author.Tests.{le-ltb, ltb-false, leb-true}
use Rattle.terms.specs.Logic.{pick, both_true, zero_one}
use Rattle.label_spec.specs.Names.{blank}
use Rattle.label_spec.specs.File.{longest_file}
use Rattle.table_spec.specs.Frame.{frame_legal, abscissa_legal}
use Rattle.table_spec.specs.Reading.{read_table}
use Rattle.table_spec.specs.Writing.{Outcome, declined, wrote, fitted, write_table}
use Rattle.table_spec.specs.declared.Style.TheVariants.{Difdup}
use Rattle.table_write_law.proofs.EightyBytes.{Lined, inner_lined}
use Rattle.table_write_law.proofs.ReadBack.{Entries, wrote_inner, wrote_most, reads_back}
use Rattle.file_spec.specs.Texts.{spacing, LIST, listed_as, listed_in}
use Rattle.file_spec.specs.File.{accept_file, by_first, table_by, last_by, abscissas_by, list_by, figures_by, records_by, labels_by, read_file_by, read_file}
use Rattle.file_write_spec.specs.declared.Scales.{Scales}
use Rattle.file_write_spec.specs.Records.{crlf}
use Rattle.file_write_spec.specs.File.{title_legal, scales_legal, numbers, within_limit, first_quotient, last_quotient, first_of, last_of, ordinates, firsty_agrees, file_exact, limited}
use Rattle.file_write_spec.specs.File.{body_text, text_of_file, by_frame, write_file}
use Rattle.file_write_law.specs.Lengths.{title_fits, scales_fit, file_most}
use Rattle.file_write_law.proofs.Lengths.{file_lined}
use Rattle.file_write_law.proofs.Found.{Parts, whole_file, spans, file_short, labelled_is, gathered_is, texts_written, figures_are}
use Rattle.decimal_spec.specs.declared.Whole.{Whole}
use Rattle.decimal_spec.specs.Parts.{whole_with}

-- the list is the one asked for, and the body starts on the next line
listed_is : (body : List ℕ) → listed_in (LIST ++ crlf ++ body) ≡ Some 13
unfolding listed_in listed_as spacing blank
listed_is body = refl

-- a quotient within its limit
pub record Limited (r : Option Whole) : Type 0 where
  pub minus : Bool
  pub size : ℕ
  pub is : r ≡ Some (whole_with minus size)

-- ---- reading the parts, down to the table

module _ (title : List ℕ) (c : Scales) (n : ℕ) (body : List ℕ) (k : Parts title c n body) (room : ℕ) where
  file_table : (f l : Option Whole) → first_quotient c n ≡ f → last_quotient c n ≡ l → Limited f → Limited l
      → read_file (whole_file title c n body) room
      ≡ by_first (whole_file title c n body) room (spans title c n body) (numbers c n) (within_limit f) (within_limit l) ((spans title c n body).xydata.from + 13)
      (read_table (within_limit f) (within_limit l) n body room)
  unfolding read_file_by labels_by records_by figures_by list_by abscissas_by last_by table_by
  file_table f l d e p q =
      let t = (texts_written title c n body).1.1.1.1.1.1.0 in
      rw (labelled_is title c n body k, gathered_is title c n body k, figures_are title c n body k, t, listed_is body, d, p.is, e, q.is, t) refl

-- ---- what the writer takes

pub record Taken (title : List ℕ) (n : ℕ) (c : Scales) (es : List ℤ) : Type 0 where
  pub titled : title_legal title ≡ true
  pub scaled : scales_legal c ≡ true
  pub first : Limited (first_quotient c n)
  pub last : Limited (last_quotient c n)
  pub legal : frame_legal (first_of c n) (last_of c n) n ≡ true
  pub enough : n ≤ length es
  pub begins : firsty_agrees c n es ≡ true

module _ (title : List ℕ) (n : ℕ) (c : Scales) (es : List ℤ) where
  abbrev pub body : List ℕ
  body = body_text title n c es

  points_few : Taken title n c es → n ≤ 65536
  unfolding frame_legal
  points_few k =
      let a = both_true (abscissa_legal (first_of c n)) _ k.legal in let b = both_true (abscissa_legal (last_of c n)) _ a.1 in
      let d = both_true (leb 1 n) _ b.1 in leb-true n 65536 (both_true (leb n 65536) _ d.1).0

  -- the writer of tables writes the same body
  pub body_wrote : Taken title n c es → write_table Difdup (first_of c n) (last_of c n) n es (length body) ≡ wrote body
  unfolding write_table
  body_wrote k = rw (k.legal, le-ltb (length es) n k.enough, le-ltb (length body) (length body) (omega arith)) refl

  parts : Taken title n c es → Parts title c n body
  parts k =
      let w = body_wrote k in
      record {
        titled = k.titled;
        scaled = k.scaled;
        few = points_few k;
        lined = wrote_inner Difdup (first_of c n) (last_of c n) n es (length body) body w;
        most = wrote_most Difdup (first_of c n) (last_of c n) n es (length body) body w;
      }

  text_most : Taken title n c es → length (text_of_file title n c es) ≤ 15 * n + 297
  text_most k =
      let p = parts k in let most = p.most in
      omega (arith, file_most title c n body (title_fits title k.titled) (scales_fit c k.scaled) p.few)

  -- what is taken is written, where there is room
  pub file_written : (space : ℕ) → Taken title n c es → 15 * n + 297 ≤ space → write_file title n c es space ≡ wrote (text_of_file title n c es)
  unfolding write_file by_frame
  file_written space k h =
      let t = text_of_file title n c es in
      let r : fitted space t ≡ wrote t = rw (le-ltb space (length t) (omega (arith, text_most k))) refl in
      rw (k.titled, k.scaled) (within (first_quotient c n) k.first (within (last_quotient c n) k.last (rw (k.legal, le-ltb (length es) n k.enough, k.begins) r)))
    where
      within : (q : Option Whole) {x y : Outcome} → Limited q → x ≡ y → limited q x ≡ y
      within q l e = rw l.is e

  -- ---- what was written

  module _ (space : ℕ) (s : List ℕ) where
    never : {A : Type 0} {k : ℕ} → declined k ≡ wrote s → A
    never e = zero_one cc

    -- one test after another
    passed : {A : Type 0} (t : Bool) (x : Outcome) (k : ℕ) → pick t x (declined k) ≡ wrote s → (t ≡ true → x ≡ wrote s → A) → A
    passed true x k e f = f refl e
    passed false x k e f = never e

    spared : {A : Type 0} (t : Bool) (x : Outcome) (k : ℕ) → pick t (declined k) x ≡ wrote s → (t ≡ false → x ≡ wrote s → A) → A
    spared true x k e f = never e
    spared false x k e f = f refl e

    bounded : {A : Type 0} (r : Option Whole) (x : Outcome) → limited r x ≡ wrote s → (Limited r → x ≡ wrote s → A) → A
    bounded (Some y) x e f = f (record { minus = y.minus; size = y.size; is = refl }) e
    bounded None x e f = never e

    -- the writer took all this, and the text is the one defined
    pub went : write_file title n c es space ≡ wrote s → Taken title n c es × (text_of_file title n c es ≡ s)
    unfolding write_file by_frame
    went w =
        let t = text_of_file title n c es in
        let by_first = pick (firsty_agrees c n es) (fitted space t) (declined 29) in
        let by_quotients = limited (first_quotient c n) (limited (last_quotient c n) (by_frame title n c es space)) in
        passed (title_legal title) (pick (scales_legal c) by_quotients (declined 26)) 37 w (λ a w.
        passed (scales_legal c) by_quotients 26 w (λ b w.
        bounded (first_quotient c n) (limited (last_quotient c n) (by_frame title n c es space)) w (λ f w.
        bounded (last_quotient c n) (by_frame title n c es space) w (λ l w.
        passed (frame_legal (first_of c n) (last_of c n) n) (pick (ltb (length es) n) (declined 2) by_first) 1 w (λ d w.
        spared (ltb (length es) n) by_first 2 w (λ e w.
        passed (firsty_agrees c n es) (fitted space t) 29 w (λ g w.
        spared (ltb space (length t)) (wrote t) 15 w (λ h w.
        let z : t ≡ s = cc in
        (record { titled = a; scaled = b; first = f; last = l; legal = d; enough = ltb-false (length es) n e; begins = g }, z)))))))))

    module _ (w : write_file title n c es space ≡ wrote s) where
      -- the file is within its limit,
      pub written_short : length s ≤ longest_file
      written_short = let k = went w in rw k.1 at (file_short title c n body (parts k.0))

      pub written_most : length s ≤ 15 * n + 297
      written_most = let k = went w in rw k.1 at (text_most k.0)

      -- in lines of at most 80 bytes,
      pub written_lined : Lined 0 s
      written_lined =
          let k = went w in let p = parts k.0 in
          rw k.1 at (file_lined title c n body (title_fits title p.titled) (scales_fit c p.scaled) p.few (inner_lined p.lined))

      module _ (h : Entries es) where
        -- and it is accepted, with the same N, F, L and ordinates, missing ones too, and with what the writer said is exact, where there is room for them;
        pub accepts_written : (room : ℕ) → n ≤ room → read_file s room ≡ accept_file (record { points = n; first = first_of c n; last = last_of c n; exact = file_exact c n es }) (ordinates n es)
        unfolding by_first
        accepts_written room r =
            let k = went w in
            let b = reads_back Difdup (first_of c n) (last_of c n) n es (length body) body h (body_wrote k.0) room r in
            rw (← k.1, file_table title c n body (parts k.0) room _ _ refl refl k.0.first k.0.last, b, k.0.begins) refl
