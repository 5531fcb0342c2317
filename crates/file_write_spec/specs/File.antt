-- 02, T-04: the written file, and what writing it answers. "Refusals: 37 .. first of all; then 26, 28, 1, 2, 29, 15, all at place 0." Assumes nothing.
use Rattle.std.specs.Prelude.{Bool, true, false, List, [], ◌∷◌, ◌++◌, map, ℕ, ltb, leb, eqb, ℤ, length, get_or, take, Option, Some, None}
use Rattle.terms.specs.Logic.{pick, both}
use Rattle.table_spec.specs.Frame.{frame_legal, abscissa, ordinate_of}
use Rattle.table_spec.specs.Writing.{Outcome, declined, fitted, written}
use Rattle.table_spec.specs.declared.Style.TheVariants.{Difdup}
use Rattle.label_spec.specs.Names.{TITLE, END}
use Rattle.file_spec.specs.declared.Numbers.{Numbers}
use Rattle.file_spec.specs.Texts.{XFACTOR, YFACTOR, FIRSTX, LASTX, NPOINTS, FIRSTY, XYDATA, LIST}
use Rattle.file_spec.specs.declared.Exactness.{Exactness}
use Rattle.file_spec.specs.Figures.{ratio, abscissa_of, whole, agrees, exactness_of}
use Rattle.table_spec.specs.Groups.{plain_text}
use Rattle.file_write_spec.specs.declared.Scales.{Scales}
use Rattle.file_write_spec.specs.Records.{Entry, crlf, entries_text, line}
use Rattle.file_write_spec.specs.Decimals.{decimal_text, decimal_of, decimal_taken, factor_taken}
use Rattle.decimal_spec.specs.declared.Whole.{Whole}

-- ---- the text: "TITLE, XFACTOR, YFACTOR, FIRSTX, LASTX, NPOINTS, FIRSTY, XYDATA, DIFDUP body, END, in that order, CR LF ends"

-- XYDATA: its list, and the body from the next line on
abbrev pub table : List ℕ → Entry
table body = record { name = XYDATA; text = LIST ++ crlf ++ body }

-- the seven records that a table needs
abbrev pub needed : Scales → ℕ → List ℕ → List Entry
needed c n body =
    line XFACTOR (decimal_text c.xfactor)
    ∷ line YFACTOR (decimal_text c.yfactor)
    ∷ line FIRSTX (decimal_text c.firstx)
    ∷ line LASTX (decimal_text c.lastx)
    ∷ line NPOINTS (plain_text n)
    ∷ line FIRSTY (decimal_text c.firsty)
    ∷ table body
    ∷ []

-- END, with no text
abbrev pub end_line : Entry
end_line = line END []

-- the records of a file
abbrev pub file_entries : List ℕ → Scales → ℕ → List ℕ → List Entry
file_entries title c n body = line TITLE title ∷ (needed c n body ++ end_line ∷ [])

-- its text
unfoldable pub file_text : List ℕ → Scales → ℕ → List ℕ → List ℕ
file_text title c n body = entries_text (file_entries title c n body)

-- ---- 37: "a title over 72 bytes, with a byte outside 32 to 126, or with `$$`"

abbrev pub longest_title : ℕ
longest_title = 72

-- is each byte one of 32 to 126?
unfoldable pub printable : List ℕ → Bool
printable [] = true
printable (b ∷ t) = both (both (leb 32 b) (leb b 126)) (printable t)

-- does `$$` stand in the text?
unfoldable pub dollars : List ℕ → Bool
dollars [] = false
dollars (b ∷ t) = pick (both (eqb b 36) (eqb (get_or t 0 0) 36)) true (dollars t)

unfoldable pub title_legal : List ℕ → Bool
title_legal t = both (leb (length t) longest_title) (both (printable t) (pick (dollars t) false true))

-- ---- 26: each of the five decimals is taken

unfoldable pub scales_legal : Scales → Bool
scales_legal c =
    both (factor_taken c.xfactor) (both (factor_taken c.yfactor)
    (both (decimal_taken c.firstx) (both (decimal_taken c.lastx) (decimal_taken c.firsty))))

-- ---- 28: F and L, as the reader finds them in the file

-- the numbers that the file says
abbrev pub numbers : Scales → ℕ → Numbers
numbers c n =
    record {
      xfactor = decimal_of c.xfactor;
      yfactor = decimal_of c.yfactor;
      firstx = decimal_of c.firstx;
      lastx = decimal_of c.lastx;
      npoints = n;
      firsty = decimal_of c.firsty;
    }

-- 01: "F is FIRSTX/XFACTOR and L is LASTX/XFACTOR, to the nearest thousandth"
abbrev pub first_quotient : Scales → ℕ → Option Whole
first_quotient c n = (abscissa_of (numbers c n).firstx (numbers c n).xfactor).rounded

abbrev pub last_quotient : Scales → ℕ → Option Whole
last_quotient c n = (abscissa_of (numbers c n).lastx (numbers c n).xfactor).rounded

-- a quotient beyond its limit is refused
abbrev pub limited : Option Whole → Outcome → Outcome
limited None x = declined 28
limited (Some y) x = x

-- the number that a quotient within its limit is; no other is asked for
abbrev pub within_limit : Option Whole → ℤ
within_limit (Some x) = whole x.minus x.size
within_limit None = whole false 0

abbrev pub first_of : Scales → ℕ → ℤ
first_of c n = within_limit (first_quotient c n)

abbrev pub last_of : Scales → ℕ → ℤ
last_of c n = within_limit (last_quotient c n)

-- ---- 29: 01's "The first ordinate, unless missing, equals FIRSTY/YFACTOR rounded likewise to a whole number"

-- the first n ordinates
abbrev pub ordinates : ℕ → List ℤ → List ℕ
ordinates n es = map ordinate_of (take n es)

abbrev pub firsty_agrees : Scales → ℕ → List ℤ → Bool
firsty_agrees c n es = agrees (get_or (ordinates n es) 0 0) (ratio 0 (numbers c n).firsty (numbers c n).yfactor).rounded

-- ---- 02, T-08: what is exact, as the reader finds it in the file

abbrev pub file_exact : Scales → ℕ → List ℤ → Exactness
file_exact c n es = exactness_of (numbers c n) (get_or (ordinates n es) 0 0)

-- ---- the outcome for a title, N, the five decimals, the lent ordinates, and how many bytes there is room for

module _ (title : List ℕ) (n : ℕ) (c : Scales) (es : List ℤ) where
  -- the table's body, in DIFDUP form
  abbrev pub body_text : List ℕ
  body_text = written Difdup (abscissa (first_of c n)) (abscissa (last_of c n)) n (ordinates n es)

  abbrev pub text_of_file : List ℕ
  text_of_file = file_text title c n body_text

  -- 1, 2, 29, 15
  unfoldable pub by_frame : ℕ → Outcome
  by_frame space =
      pick (frame_legal (first_of c n) (last_of c n) n)
      (pick (ltb (length es) n) (declined 2)
      (pick (firsty_agrees c n es) (fitted space text_of_file) (declined 29)))
      (declined 1)

  -- 37, 26, 28 (F first), and then these
  unfoldable pub write_file : ℕ → Outcome
  write_file space =
      pick (title_legal title)
      (pick (scales_legal c)
      (limited (first_quotient c n) (limited (last_quotient c n) (by_frame space)))
      (declined 26))
      (declined 37)
