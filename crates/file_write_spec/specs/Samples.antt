-- 02, T-04: a table of files to be written and what writing them answers, under one theorem about the definitions, by computation. Assumes nothing.
use Rattle.std.specs.Prelude.{◌≡◌, refl, Bool, true, false, List, [], ◌∷◌, ◌++◌, ℕ, ℤ, pos, negsuc, replicate}
use Prim.Native.String.{String}
use Rattle.label_spec.specs.Names.{TITLE, END}
use Rattle.table_spec.specs.Frame.{frame_legal, exact, nearest}
use Rattle.table_spec.specs.Numerals.{top, low, numeral, fraction, magnitude, head_text}
use Rattle.table_spec.specs.Groups.{form, sqz_text, plain_text, token_text, many, dup_text, group}
use Rattle.table_spec.specs.Writing.{Outcome, declined, wrote, written, lines_of, text, put, check, open_line, go_on, close}
use Rattle.decimal_spec.specs.Samples.{bytes}
use Rattle.decimal_spec.specs.Quotient.{nearest as nearest-whole, rounded_of, exact_of, quotient_of}
use Rattle.file_spec.specs.Figures.{ratio, equals}
use Rattle.file_write_spec.specs.declared.GivenDecimal.{GivenDecimal}
use Rattle.file_write_spec.specs.declared.Scales.{Scales}
use Rattle.file_write_spec.specs.Records.{crlf, entry_text, entries_text}
use Rattle.file_write_spec.specs.Decimals.{mantissa_text, exponent_text, decimal_text, decimal_taken, factor_taken}
use Rattle.file_write_spec.specs.File.{printable, dollars, title_legal, scales_legal, file_text, file_exact, by_frame, write_file}

-- a mantissa and an exponent
abbrev pub dec : ℤ → ℤ → GivenDecimal
dec m e = record { mantissa = m; exponent = e }

-- XFACTOR, YFACTOR, FIRSTX, LASTX, FIRSTY
abbrev pub scales : GivenDecimal → GivenDecimal → GivenDecimal → GivenDecimal → GivenDecimal → Scales
scales xf yf fx lx fy = record { xfactor = xf; yfactor = yf; firstx = fx; lastx = lx; firsty = fy }

-- 0, 1, 3, one tenth, and 10^7
abbrev pub d0 : GivenDecimal
d0 = dec (pos 0) (pos 0)

abbrev pub d1 : GivenDecimal
d1 = dec (pos 1) (pos 0)

abbrev pub d3 : GivenDecimal
d3 = dec (pos 3) (pos 0)

abbrev pub tenth : GivenDecimal
tenth = dec (pos 1) (negsuc 0)

abbrev pub large : GivenDecimal
large = dec (pos 1) (pos 7)

-- the ordinates 0 1 0 0 of 01's file, and its decimals
abbrev pub four : List ℤ
four = pos 0 ∷ pos 1 ∷ pos 0 ∷ pos 0 ∷ []

abbrev pub usual : Scales
usual = scales d1 tenth d0 d3 d0

-- lines, each ended by CR LF
abbrev pub printed : List String → List ℕ
printed [] = []
printed (l ∷ ls) = bytes l ++ crlf ++ printed ls

-- a title, N, the decimals, the ordinates, the room, and what writing answers
pub data Sample : Type 0 where
  sample : String → ℕ → Scales → List ℤ → ℕ → Outcome → Sample
  sample_of : List ℕ → ℕ → Scales → List ℤ → ℕ → Outcome → Sample

unfoldable pub samples : List Sample
samples =
    -- 01's file, written: 154 bytes
    sample "one count" 4 usual four 154
    (wrote (printed (
    "##TITLE=one count" ∷
    "##XFACTOR=1E+00" ∷
    "##YFACTOR=1E-01" ∷
    "##FIRSTX=0E+00" ∷
    "##LASTX=3E+00" ∷
    "##NPOINTS=4" ∷
    "##FIRSTY=0E+00" ∷
    "##XYDATA=(X++(Y..Y))" ∷
    "0@Jj%" ∷
    "3@" ∷
    "##END=" ∷ []))) ∷
    -- one byte short: 15
    sample "one count" 4 usual four 153 (declined 15) ∷
    -- a title like a label; mantissa and exponent as given; F above L; the first ordinate is missing, and FIRSTY is not compared
    sample "##END=" 2 (scales (dec (pos 10) (negsuc 0)) d1 (dec (negsuc 24) (negsuc 0)) (dec (negsuc 999999998) (negsuc 4)) (dec (pos 0) (pos 7))) (negsuc 2147483647 ∷ negsuc 0 ∷ pos 5 ∷ []) 200
    (wrote (printed (
    "##TITLE=##END=" ∷
    "##XFACTOR=10E-01" ∷
    "##YFACTOR=1E+00" ∷
    "##FIRSTX=-25E-01" ∷
    "##LASTX=-999999999E-05" ∷
    "##NPOINTS=2" ∷
    "##FIRSTY=0E+07" ∷
    "##XYDATA=(X++(Y..Y))" ∷
    "-2.5?a" ∷
    "##END=" ∷ []))) ∷
    -- F is rounded: a third of 1
    sample "a third" 2 (scales d3 tenth d1 d3 d0) (pos 0 ∷ pos 1 ∷ []) 200
    (wrote (printed (
    "##TITLE=a third" ∷
    "##XFACTOR=3E+00" ∷
    "##YFACTOR=1E-01" ∷
    "##FIRSTX=1E+00" ∷
    "##LASTX=3E+00" ∷
    "##NPOINTS=2" ∷
    "##FIRSTY=0E+00" ∷
    "##XYDATA=(X++(Y..Y))" ∷
    "0.333@J" ∷
    "1A" ∷
    "##END=" ∷ []))) ∷
    -- `a$$b`: 37
    sample "a$$b" 4 usual four 154 (declined 37) ∷
    -- byte 127, and a factor of zero: 37 first
    sample_of (127 ∷ []) 4 (scales d0 tenth d0 d3 d0) four 154 (declined 37) ∷
    -- byte 31: 37
    sample_of (31 ∷ []) 4 usual four 154 (declined 37) ∷
    -- 73 bytes: 37; with 72 only the room is lacking
    sample_of (replicate 73 97) 4 usual four 154 (declined 37) ∷
    sample_of (replicate 72 126) 4 usual four 154 (declined 15) ∷
    -- a mantissa of ten digits, and a quotient beyond: 26 first
    sample "one count" 4 (scales d1 tenth (dec (pos 1000000000) (pos 99)) d3 d0) four 154 (declined 26) ∷
    -- an exponent of 100, of -100: 26
    sample "one count" 4 (scales d1 tenth d0 d3 (dec (pos 0) (pos 100))) four 154 (declined 26) ∷
    sample "one count" 4 (scales d1 tenth d0 d3 (dec (pos 0) (negsuc 99))) four 154 (declined 26) ∷
    -- a factor below zero, a factor of zero: 26
    sample "one count" 4 (scales d1 (dec (negsuc 0) (pos 0)) d0 d3 d0) four 154 (declined 26) ∷
    sample "one count" 4 (scales d1 d0 d0 d3 d0) four 154 (declined 26) ∷
    -- F beyond its limit; L beyond it, and no points: 28 first
    sample "one count" 4 (scales d1 tenth large d3 d0) four 154 (declined 28) ∷
    sample "one count" 0 (scales d1 tenth d0 large d0) four 154 (declined 28) ∷
    -- no points: 1; five points from 0 to 0, and too few ordinates: 1 first
    sample "one count" 0 usual four 154 (declined 1) ∷
    sample "one count" 5 (scales d1 tenth d0 d0 d0) four 154 (declined 1) ∷
    -- five points of four, and FIRSTY disagrees: 2 first
    sample "one count" 5 (scales d1 tenth d0 d3 d1) four 154 (declined 2) ∷
    -- FIRSTY disagrees, and no room: 29 first
    sample "one count" 4 (scales d1 tenth d0 d3 d1) four 0 (declined 29) ∷
    []

abbrev pub Holds : Sample → Type 0
Holds (sample title n c es space x) = write_file (bytes title) n c es space ≡ x
Holds (sample_of title n c es space x) = write_file title n c es space ≡ x

abbrev pub AllHold : List Sample → Type 0
AllHold [] = Unit {0}
AllHold (x ∷ xs) = Holds x × AllHold xs

pub samples_hold : AllHold samples
unfolding samples write_file by_frame title_legal printable dollars scales_legal decimal_taken factor_taken file_text entries_text entry_text plain_text
    mantissa_text exponent_text decimal_text TITLE END ratio equals quotient_of rounded_of nearest-whole frame_legal exact nearest written lines_of text
    put check open_line go_on close group many form token_text sqz_text dup_text numeral top low fraction magnitude head_text
samples_hold = (refl, (refl, (refl, (refl, (refl, (refl, (refl, (refl, (refl, (refl, (refl, (refl, (refl, (refl, (refl, (refl, (refl, (refl, (refl, (refl, tt))))))))))))))))))))

-- ---- 02, T-08: decimals, the first ordinate, and whether F, L and FIRSTY's quotient are exact

pub data Exacting : Type 0 where
  exacting : Scales → ℤ → Bool → Bool → Bool → Exacting

abbrev pub exactings : List Exacting
exactings =
    -- 01's file
    exacting usual (pos 0) true true true ∷
    -- F is a third of 1, and L of 3; and the other way round
    exacting (scales d3 tenth d1 d3 d0) (pos 0) false true true ∷
    exacting (scales d3 tenth d3 d1 d0) (pos 0) true false true ∷
    -- FIRSTY is a half, rounded to 1; not compared
    exacting (scales d1 (dec (pos 2) (pos 0)) d0 d3 d1) (pos 1) true true false ∷
    exacting (scales d1 (dec (pos 2) (pos 0)) d0 d3 d1) (negsuc 2147483647) true true true ∷
    -- F is 1E-99 over 1E+99, and L 0 over it
    exacting (scales (dec (pos 1) (pos 99)) tenth (dec (pos 1) (negsuc 98)) d0 d0) (pos 0) false true true ∷
    []

abbrev pub Exacts : Exacting → Type 0
Exacts (exacting c y f l q) = file_exact c 1 (y ∷ []) ≡ record { first = f; last = l; firsty = q }

abbrev pub AllExact : List Exacting → Type 0
AllExact [] = Unit {0}
AllExact (x ∷ xs) = Exacts x × AllExact xs

pub exactings_hold : AllExact exactings
unfolding ratio quotient_of rounded_of exact_of nearest-whole
exactings_hold = (refl, (refl, (refl, (refl, (refl, (refl, tt))))))
