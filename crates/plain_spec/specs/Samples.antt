-- 01, "Bench samples", as rows: what a line gives by itself, and what the checks make of it. Frame F = 0, L = 3000, N = 4. Assumes nothing.
use Rattle.std.specs.Prelude.{◌≡◌, refl, true, false, List, [], ◌∷◌, ℕ, pos}
use Rattle.alphabet_spec.specs.Digits.{digits}
use Rattle.alphabet_spec.specs.Bytes.{kind}
use Rattle.table_spec.specs.Frame.{frame_legal, passes}
use Rattle.table_spec.specs.Reading.{Answer, refuse, accept, tokens, line_length, comment, ending, scaled, pointed, thousandths, opening, inside, step, stop, again, says}
use Rattle.table_spec.specs.Samples.{padded}
use Rattle.plain_spec.specs.Rows.{Line, lines, point, done, bad, unread, row, values, expand, expanded, rows}
use Rattle.plain_spec.specs.Plain.{checks, laid, plain, plain_table}

-- a body and its rows; or a body and its answer
pub data Sample : Type 0 where
  gives : List ℕ → List Line → Sample
  says_plainly : List ℕ → Answer → Sample

unfoldable pub samples : List Sample
samples =
    -- `0E0%U/3E0/`: four times 50, in DIF form; then a row of one ordinate
    gives (48 ∷ 69 ∷ 48 ∷ 37 ∷ 85 ∷ 10 ∷ 51 ∷ 69 ∷ 48 ∷ 10 ∷ [])
    (row 0 10000000000 1000 (point 1 2147483698 (point 3 2147483698 (point 4 2147483698 (point 4 2147483698 (done true))))) ∷ row 6 10000003000 1000 (point 7 2147483698 (done false)) ∷ []) ∷
    -- its check value is no point
    says_plainly (48 ∷ 69 ∷ 48 ∷ 37 ∷ 85 ∷ 10 ∷ 51 ∷ 69 ∷ 48 ∷ 10 ∷ []) (accept (2147483698 ∷ 2147483698 ∷ 2147483698 ∷ 2147483698 ∷ [])) ∷
    -- `0A?J1`: 1, missing, and then 8
    gives (48 ∷ 65 ∷ 63 ∷ 74 ∷ 49 ∷ []) (row 0 10000000000 1000 (point 1 2147483649 (point 2 0 (bad 8 3))) ∷ []) ∷
    -- `0`: 7 at its head
    gives (48 ∷ []) (row 0 10000000000 1000 (bad 7 0) ∷ []) ∷
    -- `0A0J/1A2`: 12 where 11 is the last point: 10 at 6
    says_plainly (48 ∷ 65 ∷ 48 ∷ 74 ∷ 10 ∷ 49 ∷ 65 ∷ 50 ∷ []) (refuse 10 6) ∷
    -- `0A/1.5B`: 6 at 3
    says_plainly (48 ∷ 65 ∷ 10 ∷ 49 ∷ 46 ∷ 53 ∷ 66 ∷ []) (refuse 6 3) ∷
    -- `0E0W@5`: 11 at 3, and the misspelled value after it is not given
    says_plainly (48 ∷ 69 ∷ 48 ∷ 87 ∷ 64 ∷ 53 ∷ []) (refuse 11 3) ∷
    -- `0B147483640JZ`: the DUP runs out of range, past N too: 9 at 12
    says_plainly (48 ∷ 66 ∷ 49 ∷ 52 ∷ 55 ∷ 52 ∷ 56 ∷ 51 ∷ 54 ∷ 52 ∷ 48 ∷ 74 ∷ 90 ∷ []) (refuse 9 12) ∷
    -- 79 blanks and `0A`, 81 bytes: 16, and the line is not expanded
    gives (padded 32 79 (48 ∷ 65 ∷ [])) (unread 16 0 ∷ []) ∷
    -- `0A0J/` and a line of 81 bytes: 16 at its first byte, before 3
    says_plainly (48 ∷ 65 ∷ 48 ∷ 74 ∷ 10 ∷ padded 46 81 []) (refuse 16 5) ∷
    -- `0AJU/3D/`: the DUP of a DIF repeats the difference: 1 2 3 4
    says_plainly (48 ∷ 65 ∷ 74 ∷ 85 ∷ 10 ∷ 51 ∷ 68 ∷ 10 ∷ []) (accept (2147483649 ∷ 2147483650 ∷ 2147483651 ∷ 2147483652 ∷ [])) ∷
    -- docs/ENGINE.md, `0A0J5%/2B5kT?C/7A/`: 10 25 25 in DIF form; 25 23 21 ? 3; 1
    gives (48 ∷ 65 ∷ 48 ∷ 74 ∷ 53 ∷ 37 ∷ 10 ∷ 50 ∷ 66 ∷ 53 ∷ 107 ∷ 84 ∷ 63 ∷ 67 ∷ 10 ∷ 55 ∷ 65 ∷ 10 ∷ [])
    (row 0 10000000000 1000 (point 1 2147483658 (point 3 2147483673 (point 5 2147483673 (done true)))) ∷
    row 7 10000002000 1000 (point 8 2147483673 (point 10 2147483671 (point 11 2147483669 (point 12 0 (point 13 2147483651 (done false)))))) ∷
    row 15 10000007000 1000 (point 16 2147483649 (done false)) ∷ []) ∷
    -- and its damaged line `0A0J4%`: 10 24 24
    gives (48 ∷ 65 ∷ 48 ∷ 74 ∷ 52 ∷ 37 ∷ 10 ∷ []) (row 0 10000000000 1000 (point 1 2147483658 (point 3 2147483672 (point 5 2147483672 (done true)))) ∷ []) ∷
    []

abbrev pub Holds : Sample → Type 0
Holds (gives s ls) = rows false s ≡ ls
Holds (says_plainly s a) = plain_table (pos 0) (pos 3000) 4 s 4 ≡ a

abbrev pub AllHold : List Sample → Type 0
AllHold [] = Unit {0}
AllHold (x ∷ xs) = Holds x × AllHold xs

pub samples_hold : AllHold samples
unfolding samples plain_table plain frame_legal passes checks laid lines expanded expand values kind digits tokens
    line_length comment ending scaled pointed thousandths opening inside step stop again says
samples_hold = (refl, (refl, (refl, (refl, (refl, (refl, (refl, (refl, (refl, (refl, (refl, (refl, (refl, tt)))))))))))))
