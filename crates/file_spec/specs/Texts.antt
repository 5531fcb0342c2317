-- 01, "The file": the seven records, where a fault in one stands, and the list of XYDATA. Assumes nothing.
use Rattle.std.specs.Prelude.{Bool, true, false, List, [], ◌∷◌, ℕ, suc, ◌+◌, ◌-◌, eqb, length, get_or, drop, take, Option, Some, None}
use Rattle.terms.specs.Logic.{pick, both}
use Rattle.label_spec.specs.Names.{blank}
use Rattle.label_spec.specs.Labels.{from}
use Rattle.label_spec.specs.Records.{record_of}
use Rattle.label_spec.specs.declared.Span.{Span}
use Rattle.file_spec.specs.declared.Needed.{Needed}

-- ---- the names, as they compare

abbrev pub XFACTOR : List ℕ
XFACTOR = 88 ∷ 70 ∷ 65 ∷ 67 ∷ 84 ∷ 79 ∷ 82 ∷ []

abbrev pub YFACTOR : List ℕ
YFACTOR = 89 ∷ 70 ∷ 65 ∷ 67 ∷ 84 ∷ 79 ∷ 82 ∷ []

abbrev pub FIRSTX : List ℕ
FIRSTX = 70 ∷ 73 ∷ 82 ∷ 83 ∷ 84 ∷ 88 ∷ []

abbrev pub LASTX : List ℕ
LASTX = 76 ∷ 65 ∷ 83 ∷ 84 ∷ 88 ∷ []

abbrev pub NPOINTS : List ℕ
NPOINTS = 78 ∷ 80 ∷ 79 ∷ 73 ∷ 78 ∷ 84 ∷ 83 ∷ []

abbrev pub FIRSTY : List ℕ
FIRSTY = 70 ∷ 73 ∷ 82 ∷ 83 ∷ 84 ∷ 89 ∷ []

abbrev pub XYDATA : List ℕ
XYDATA = 88 ∷ 89 ∷ 68 ∷ 65 ∷ 84 ∷ 65 ∷ []

-- ---- "The text of a record is shown as the part of the file from after `=` to the next label's `##`"

abbrev pub text_in : List ℕ → Span → List ℕ
text_in s t = take (t.to - t.from) (drop t.from s)

-- ---- 25: all seven, among the labels from a place on and before END's

abbrev pub with_text : Option Span → (Span → Option Needed) → Option Needed
with_text (Some x) f = f (record { from = x.from; to = x.to })
with_text None f = None

module _ (s : List ℕ) (start stop : ℕ) where
  abbrev pub text_of : List ℕ → Option Span
  text_of w = record_of (length s) stop w (from s start false)

  unfoldable pub gathered_from : Option Needed
  gathered_from =
      with_text (text_of XFACTOR) (λ xf. with_text (text_of YFACTOR) (λ yf. with_text (text_of FIRSTX) (λ fx. with_text (text_of LASTX) (λ lx.
      with_text (text_of NPOINTS) (λ np. with_text (text_of FIRSTY) (λ fy. with_text (text_of XYDATA) (λ xy.
      Some (record { xfactor = xf; yfactor = yf; firstx = fx; lastx = lx; npoints = np; firsty = fy; xydata = xy }))))))))

-- ---- 26's place: "first non-blank after `=`, or record end"; "line ends count as blanks for the places below"

-- a blank, LF, or CR before LF: b, with c after it
unfoldable pub spacing : ℕ → ℕ → Bool
spacing b c = pick (blank b) true (pick (eqb b 10) true (both (eqb b 13) (eqb c 10)))

-- the first place of a text, which stands from i on, with no blank and no line end
unfoldable pub first_mark : List ℕ → ℕ → ℕ
first_mark [] i = i
first_mark (b ∷ s) i = pick (spacing b (get_or s 0 0)) (first_mark s (suc i)) i

-- of a text, counted in it
abbrev pub mark_in : List ℕ → ℕ
mark_in p = first_mark p 0

-- of the text of a record, counted in the file
unfoldable pub mark_of : List ℕ → Span → ℕ
mark_of s t = t.from + mark_in (text_in s t)

-- ---- 27: "the rest of XYDATA's line after `=`, blanks dropped, is not `(X++(Y..Y))`"

abbrev pub LIST : List ℕ
LIST = 40 ∷ 88 ∷ 43 ∷ 43 ∷ 40 ∷ 89 ∷ 46 ∷ 46 ∷ 89 ∷ 41 ∷ 41 ∷ []

-- the line has ended, and so has the list; or not
abbrev pub ended : List ℕ → ℕ → Option ℕ
ended [] i = Some i
ended (c ∷ w) i = None

-- the next byte b of the line against what is left of the list
abbrev pub matched : ℕ → List ℕ → (List ℕ → Option ℕ) → Option ℕ
matched b [] f = None
matched b (c ∷ w) f = pick (eqb b c) (f w) None

-- the rest of a line that stands from i on, against what is left of the list: blanks are dropped, LF, CR LF or the end of the record ends the line; the body starts on the next
unfoldable pub listed_as : List ℕ → ℕ → List ℕ → Option ℕ
listed_as [] i w = ended w i
listed_as (b ∷ s) i w = pick (eqb b 10) (ended w (suc i)) (pick (spacing b (get_or s 0 0)) (listed_as s (suc i) w) (matched b w (listed_as s (suc i))))

-- of the text of XYDATA: the body starts at a place of that text
unfoldable pub listed_in : List ℕ → Option ℕ
listed_in p = listed_as p 0 LIST
