-- 01, "Bench samples": those marked P, one for each form of 02, T-02, ours, and those of T-06: under one theorem about the definitions, by computation. Assumes nothing.
-- Frame F = 0, L = 3000, N = 4 where no other is said; `/` stands for LF, CR LF where written.
use Rattle.std.specs.Prelude.{◌≡◌, refl, List, [], ◌∷◌, ℕ, zero, suc, ℤ, pos, map}
use Rattle.alphabet_spec.specs.Digits.{digits}
use Rattle.alphabet_spec.specs.Bytes.{kind}
use Rattle.table_spec.specs.Frame.{frame_legal, passes, exact, nearest, entry_for}
use Rattle.table_spec.specs.Reading.{Answer, refuse, accept, read_table, read, judge, tokens, comment, ending, scaled, pointed, thousandths, opening, inside, step, stop}
use Rattle.table_spec.specs.Reading.{again, says, push, took, checked, finish, read_lines, line_length, long_line, sooner}
use Rattle.table_spec.specs.Numerals.{top, low, numeral, fraction, magnitude, head_text}
use Rattle.table_spec.specs.Groups.{form, sqz_text, token_text, many, dup_text, group}
use Rattle.table_spec.specs.Writing.{wrote, write_table, written, lines_of, text, put, check, open_line, go_on, close}
use Rattle.table_spec.specs.declared.Style.{Style}
use Rattle.table_spec.specs.declared.Style.TheVariants.{Affn, Pac, Sqz, Difdup}
use Rattle.table_spec.specs.Groups.{form, sqz_text, plain_text, pac_text, affn_text, token_text, many, dup_text, group}

-- n bytes b, and then s
abbrev pub padded : ℕ → ℕ → List ℕ → List ℕ
padded b zero s = s
padded b (suc n) s = b ∷ padded b n s

-- 1 1 1 1
abbrev pub ones : Answer
ones = accept (2147483649 ∷ 2147483649 ∷ 2147483649 ∷ 2147483649 ∷ [])

-- a body and its answer; or a form, ordinates and their text. In a frame of its own where F, L and N stand before them
pub data Sample : Type 0 where
  reads : List ℕ → Answer → Sample
  writes : Style → List ℕ → List ℕ → Sample
  reads_in : ℤ → ℤ → ℕ → List ℕ → Answer → Sample
  writes_in : ℤ → ℤ → ℕ → Style → List ℕ → List ℕ → Sample

unfoldable pub samples : List Sample
samples =
    -- `0E0V`: 50 50 50 50
    reads (48 ∷ 69 ∷ 48 ∷ 86 ∷ []) (accept (2147483698 ∷ 2147483698 ∷ 2147483698 ∷ 2147483698 ∷ [])) ∷
    -- `0E0%U/3E0`: 50 50 50 50
    reads (48 ∷ 69 ∷ 48 ∷ 37 ∷ 85 ∷ 10 ∷ 51 ∷ 69 ∷ 48 ∷ []) (accept (2147483698 ∷ 2147483698 ∷ 2147483698 ∷ 2147483698 ∷ [])) ∷
    -- `0E0%U`: 13 at 5
    reads (48 ∷ 69 ∷ 48 ∷ 37 ∷ 85 ∷ []) (refuse 13 5) ∷
    -- `0E0W`: 11 at 3
    reads (48 ∷ 69 ∷ 48 ∷ 87 ∷ []) (refuse 11 3) ∷
    -- `0A%?B`: 1 1 missing 2
    reads (48 ∷ 65 ∷ 37 ∷ 63 ∷ 66 ∷ []) (accept (2147483649 ∷ 2147483649 ∷ 0 ∷ 2147483650 ∷ [])) ∷
    -- `0A?J1`: 8 at 3
    reads (48 ∷ 65 ∷ 63 ∷ 74 ∷ 49 ∷ []) (refuse 8 3) ∷
    -- `0A0J/1A2`: 10 at 6
    reads (48 ∷ 65 ∷ 48 ∷ 74 ∷ 10 ∷ 49 ∷ 65 ∷ 50 ∷ []) (refuse 10 6) ∷
    -- `0+1-1+1-1`: 1 -1 1 -1
    reads (48 ∷ 43 ∷ 49 ∷ 45 ∷ 49 ∷ 43 ∷ 49 ∷ 45 ∷ 49 ∷ []) (accept (2147483649 ∷ 2147483647 ∷ 2147483649 ∷ 2147483647 ∷ [])) ∷
    -- `0@5`: 5 at 1
    reads (48 ∷ 64 ∷ 53 ∷ []) (refuse 5 1) ∷
    -- `0 12E3 1 1`: 12 53 1 1
    reads (48 ∷ 32 ∷ 49 ∷ 50 ∷ 69 ∷ 51 ∷ 32 ∷ 49 ∷ 32 ∷ 49 ∷ []) (accept (2147483660 ∷ 2147483701 ∷ 2147483649 ∷ 2147483649 ∷ [])) ∷
    -- `0A/1.5B`: 6 at 3
    reads (48 ∷ 65 ∷ 10 ∷ 49 ∷ 46 ∷ 53 ∷ 66 ∷ []) (refuse 6 3) ∷
    -- `0A/1.499B`: 12 at 9: the head passes, and two points are not given
    reads (48 ∷ 65 ∷ 10 ∷ 49 ∷ 46 ∷ 52 ∷ 57 ∷ 57 ∷ 66 ∷ []) (refuse 12 9) ∷
    -- 0 1 0 0 is written `0@Jj%/3@/`
    writes Difdup (2147483648 ∷ 2147483649 ∷ 2147483648 ∷ 2147483648 ∷ []) (48 ∷ 64 ∷ 74 ∷ 106 ∷ 37 ∷ 13 ∷ 10 ∷ 51 ∷ 64 ∷ 13 ∷ 10 ∷ []) ∷
    -- 1 missing missing 2 is written `0A?TB/`
    writes Difdup (2147483649 ∷ 0 ∷ 0 ∷ 2147483650 ∷ []) (48 ∷ 65 ∷ 63 ∷ 84 ∷ 66 ∷ 13 ∷ 10 ∷ []) ∷
    -- 02, T-02: 1 -1 missing 0 is written `0 1 -1 ? 0/` in AFFN,
    writes Affn (2147483649 ∷ 2147483647 ∷ 0 ∷ 2147483648 ∷ []) (48 ∷ 32 ∷ 49 ∷ 32 ∷ 45 ∷ 49 ∷ 32 ∷ 63 ∷ 32 ∷ 48 ∷ 13 ∷ 10 ∷ []) ∷
    -- `0 1-1? 0/` in PAC,
    writes Pac (2147483649 ∷ 2147483647 ∷ 0 ∷ 2147483648 ∷ []) (48 ∷ 32 ∷ 49 ∷ 45 ∷ 49 ∷ 63 ∷ 32 ∷ 48 ∷ 13 ∷ 10 ∷ []) ∷
    -- `0Aa?@/` in SQZ
    writes Sqz (2147483649 ∷ 2147483647 ∷ 0 ∷ 2147483648 ∷ []) (48 ∷ 65 ∷ 97 ∷ 63 ∷ 64 ∷ 13 ∷ 10 ∷ []) ∷
    []

-- ---- ours: what 01's proved samples leave out

unfoldable pub ours : List Sample
ours =
    -- `0AJU/3D`: 1 2 3 4: the DUP repeats the difference, 1, not the ordinate
    reads (48 ∷ 65 ∷ 74 ∷ 85 ∷ 10 ∷ 51 ∷ 68 ∷ []) (accept (2147483649 ∷ 2147483650 ∷ 2147483651 ∷ 2147483652 ∷ [])) ∷
    -- `0%5`: 5 at 1: no digit after `%`
    reads (48 ∷ 37 ∷ 53 ∷ []) (refuse 5 1) ∷
    -- `0?UB`: missing missing missing 2
    reads (48 ∷ 63 ∷ 85 ∷ 66 ∷ []) (accept (0 ∷ 0 ∷ 0 ∷ 2147483650 ∷ [])) ∷
    -- `0?TJ`: 8 at 3: through the DUP the ordinate before is missing
    reads (48 ∷ 63 ∷ 84 ∷ 74 ∷ []) (refuse 8 3) ∷
    -- `0A0J/1A1U`: 10 11 11 11: a DUP after a check value repeats that ordinate
    reads (48 ∷ 65 ∷ 48 ∷ 74 ∷ 10 ∷ 49 ∷ 65 ∷ 49 ∷ 85 ∷ []) (accept (2147483658 ∷ 2147483659 ∷ 2147483659 ∷ 2147483659 ∷ [])) ∷
    -- `1..A`: 6 at 0: the head `1.` fails, and the second point stands later
    reads (49 ∷ 46 ∷ 46 ∷ 65 ∷ []) (refuse 6 0) ∷
    -- `0A$$` CR `B/1AAA`: 1 1 1 1: in a comment CR is a byte like others
    reads (48 ∷ 65 ∷ 36 ∷ 36 ∷ 13 ∷ 66 ∷ 10 ∷ 49 ∷ 65 ∷ 65 ∷ 65 ∷ []) (accept (2147483649 ∷ 2147483649 ∷ 2147483649 ∷ 2147483649 ∷ [])) ∷
    -- `0A` CR: 3 at 2: CR without LF
    reads (48 ∷ 65 ∷ 13 ∷ []) (refuse 3 2) ∷
    -- 02, T-03, heads coarser than the spacing:
    -- `0A/0B/1C/1D` with the customer's spacing, 0.482: 1 2 3 4; it was 6 at 3
    reads_in (pos 0) (pos 1446) 4 (48 ∷ 65 ∷ 10 ∷ 48 ∷ 66 ∷ 10 ∷ 49 ∷ 67 ∷ 10 ∷ 49 ∷ 68 ∷ []) (accept (2147483649 ∷ 2147483650 ∷ 2147483651 ∷ 2147483652 ∷ [])) ∷
    -- `0A/1B`, the same frame: 6 at 3: 0.518 is more than half a unit
    reads_in (pos 0) (pos 1446) 4 (48 ∷ 65 ∷ 10 ∷ 49 ∷ 66 ∷ []) (refuse 6 3) ∷
    -- `0A/0B/1C/2D` with a spacing of 0.5: 1 2 3 4: half a unit off to either side, the half itself included
    reads_in (pos 0) (pos 1500) 4 (48 ∷ 65 ∷ 10 ∷ 48 ∷ 66 ∷ 10 ∷ 49 ∷ 67 ∷ 10 ∷ 50 ∷ 68 ∷ []) (accept (2147483649 ∷ 2147483650 ∷ 2147483651 ∷ 2147483652 ∷ [])) ∷
    -- `0A/0.B/1.C/2.D`, the same frame: no digit after the point, so the unit is 1
    reads_in (pos 0) (pos 1500) 4 (48 ∷ 65 ∷ 10 ∷ 48 ∷ 46 ∷ 66 ∷ 10 ∷ 49 ∷ 46 ∷ 67 ∷ 10 ∷ 50 ∷ 46 ∷ 68 ∷ []) (accept (2147483649 ∷ 2147483650 ∷ 2147483651 ∷ 2147483652 ∷ [])) ∷
    -- `0A/0.0B`, the same frame: 6 at 3: the unit is a tenth
    reads_in (pos 0) (pos 1500) 4 (48 ∷ 65 ∷ 10 ∷ 48 ∷ 46 ∷ 48 ∷ 66 ∷ []) (refuse 6 3) ∷
    -- `0A/0.1B/0.1C/0.2D` with a spacing of 0.05: 1 2 3 4: half a tenth off
    reads_in (pos 0) (pos 150) 4 (48 ∷ 65 ∷ 10 ∷ 48 ∷ 46 ∷ 49 ∷ 66 ∷ 10 ∷ 48 ∷ 46 ∷ 49 ∷ 67 ∷ 10 ∷ 48 ∷ 46 ∷ 50 ∷ 68 ∷ []) (accept (2147483649 ∷ 2147483650 ∷ 2147483651 ∷ 2147483652 ∷ [])) ∷
    -- `0A/0.10B`, the same frame: 6 at 3: the unit is a hundredth
    reads_in (pos 0) (pos 150) 4 (48 ∷ 65 ∷ 10 ∷ 48 ∷ 46 ∷ 49 ∷ 48 ∷ 66 ∷ []) (refuse 6 3) ∷
    -- `0A/0.01B/0.01C/0.02D` with a spacing of 0.005: 1 2 3 4: half a hundredth off
    reads_in (pos 0) (pos 15) 4 (48 ∷ 65 ∷ 10 ∷ 48 ∷ 46 ∷ 48 ∷ 49 ∷ 66 ∷ 10 ∷ 48 ∷ 46 ∷ 48 ∷ 49 ∷ 67 ∷ 10 ∷ 48 ∷ 46 ∷ 48 ∷ 50 ∷ 68 ∷ [])
    (accept (2147483649 ∷ 2147483650 ∷ 2147483651 ∷ 2147483652 ∷ [])) ∷
    -- `0A/0.010B`, the same frame: 6 at 3: the unit is a thousandth
    reads_in (pos 0) (pos 15) 4 (48 ∷ 65 ∷ 10 ∷ 48 ∷ 46 ∷ 48 ∷ 49 ∷ 48 ∷ 66 ∷ []) (refuse 6 3) ∷
    -- `0A`, N = 1 and F = 0.4: 6 at 0: it must equal F
    reads_in (pos 400) (pos 400) 1 (48 ∷ 65 ∷ []) (refuse 6 0) ∷
    -- `0.4A`, the same frame: 1
    reads_in (pos 400) (pos 400) 1 (48 ∷ 46 ∷ 52 ∷ 65 ∷ []) (accept (2147483649 ∷ [])) ∷
    -- 0 1 0 0 where L = 1, three spacings in a thousandth, is written `0@Jj%/0.001@/` (it was 14),
    writes_in (pos 0) (pos 1) 4 Difdup (2147483648 ∷ 2147483649 ∷ 2147483648 ∷ 2147483648 ∷ []) (48 ∷ 64 ∷ 74 ∷ 106 ∷ 37 ∷ 13 ∷ 10 ∷ 48 ∷ 46 ∷ 48 ∷ 48 ∷ 49 ∷ 64 ∷ 13 ∷ 10 ∷ []) ∷
    -- and that is read back
    reads_in (pos 0) (pos 1) 4 (48 ∷ 64 ∷ 74 ∷ 106 ∷ 37 ∷ 13 ∷ 10 ∷ 48 ∷ 46 ∷ 48 ∷ 48 ∷ 49 ∷ 64 ∷ 13 ∷ 10 ∷ []) (accept (2147483648 ∷ 2147483649 ∷ 2147483648 ∷ 2147483648 ∷ [])) ∷
    []

-- ---- 02, T-06: `0AV` after 77 blanks is a line of 80 bytes

unfoldable pub long_lines : List Sample
long_lines =
    -- 80 bytes, and the end of the body, LF or CR LF: 1 1 1 1
    reads (padded 32 77 (48 ∷ 65 ∷ 86 ∷ [])) ones ∷
    reads (padded 32 77 (48 ∷ 65 ∷ 86 ∷ 10 ∷ [])) ones ∷
    reads (padded 32 77 (48 ∷ 65 ∷ 86 ∷ 13 ∷ 10 ∷ [])) ones ∷
    -- 81 bytes: 16 at 0
    reads (padded 32 78 (48 ∷ 65 ∷ 86 ∷ [])) (refuse 16 0) ∷
    reads (padded 32 78 (48 ∷ 65 ∷ 86 ∷ 10 ∷ [])) (refuse 16 0) ∷
    reads (padded 32 78 (48 ∷ 65 ∷ 86 ∷ 13 ∷ 10 ∷ [])) (refuse 16 0) ∷
    -- 81 bytes, the third of them no byte of a table: 16 at 0, not 3 at 2; the first of them: 16 at 0, not 3 at 0
    reads (32 ∷ 32 ∷ 33 ∷ padded 32 78 []) (refuse 16 0) ∷
    reads (33 ∷ padded 32 80 []) (refuse 16 0) ∷
    -- a line after the table, "refused even if blank": 81 blanks, 16 at 4; a comment of 81 bytes; a CR that ends nothing, after 80 blanks
    reads (48 ∷ 65 ∷ 86 ∷ 10 ∷ padded 32 81 []) (refuse 16 4) ∷
    reads (48 ∷ 65 ∷ 86 ∷ 10 ∷ 36 ∷ 36 ∷ padded 33 79 []) (refuse 16 4) ∷
    reads (48 ∷ 65 ∷ 86 ∷ 10 ∷ padded 32 80 (13 ∷ [])) (refuse 16 4) ∷
    -- `0A!` and a line of 81 blanks after it: 3 at 2
    reads (48 ∷ 65 ∷ 33 ∷ 10 ∷ padded 32 81 []) (refuse 3 2) ∷
    []

-- ---- the theorem

-- a sample holds, of the definitions of reading and writing, with room for 4 ordinates or 80 bytes
abbrev pub Holds : Sample → Type 0
Holds (reads s a) = read_table (pos 0) (pos 3000) 4 s 4 ≡ a
Holds (writes st ys t) = write_table st (pos 0) (pos 3000) 4 (map entry_for ys) 80 ≡ wrote t
Holds (reads_in f l n s a) = read_table f l n s 4 ≡ a
Holds (writes_in f l n st ys t) = write_table st f l n (map entry_for ys) 80 ≡ wrote t

abbrev pub AllHold : List Sample → Type 0
AllHold [] = Unit {0}
AllHold (x ∷ xs) = Holds x × AllHold xs

pub samples_hold : AllHold samples × AllHold ours × AllHold long_lines
unfolding samples ours long_lines read_table read read_lines line_length long_line sooner frame_legal passes exact nearest kind digits judge tokens comment ending scaled pointed thousandths opening
    inside step stop again says push took checked finish write_table written lines_of text put check open_line go_on close group many form token_text
    sqz_text plain_text pac_text affn_text dup_text numeral top low fraction magnitude head_text
samples_hold = (
  (refl, (refl, (refl, (refl, (refl, (refl, (refl, (refl, (refl, (refl, (refl, (refl, (refl, (refl, (refl, (refl, (refl, tt))))))))))))))))),
  (refl, (refl, (refl, (refl, (refl, (refl, (refl, (refl, (refl, (refl, (refl, (refl, (refl, (refl, (refl, (refl, (refl, (refl, (refl, (refl, (refl, tt))))))))))))))))))))),
  (refl, (refl, (refl, (refl, (refl, (refl, (refl, (refl, (refl, (refl, (refl, (refl, tt)))))))))))),
)
