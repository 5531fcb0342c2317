-- 02, T-12: "Show with three small bodies that each of the last three conditions is needed", by computation. Assumes nothing.
-- Frame F = 0, L = 3000, N = 4. The body is `0AJ` LF `1BCD`: 1 2 3 4. Its first line adds two points, ends in DIF form and on 2, as the check value B says.
use Rattle.std.specs.Prelude.{◌≡◌, refl, false, true, List, [], ◌∷◌, ℕ, pos}
use Rattle.alphabet_spec.specs.Digits.{digits}
use Rattle.alphabet_spec.specs.Bytes.{kind}
use Rattle.table_spec.specs.Frame.{Rules, rules, abscissa, frame_legal, passes, exact, nearest}
use Rattle.table_spec.specs.Values.{Own, By, after}
use Rattle.table_spec.specs.Reading.{Answer, refuse, accept, read_table, read, judge, tokens, comment, ending, scaled, pointed, thousandths, opening, inside, step, stop}
use Rattle.table_spec.specs.Reading.{again, says, push, took, checked, finish, read_lines, line_length, long_line, sooner}
use Rattle.line_law.specs.WholeLine.{Done, went, does}
use Rattle.table_damage.specs.Lines.{onto, lines_do}

abbrev R : Rules
R = rules (abscissa (pos 0)) (abscissa (pos 3000)) 4

-- what a first line does
abbrev pub first_line : List ℕ → Done
first_line w = lines_do R (w ∷ []) 0 0 0 (after Own)

-- what a body of a first line and `1BCD` is answered with
abbrev pub answer : List ℕ → Answer
answer w = read_table (pos 0) (pos 3000) 4 (onto (w ∷ []) (49 ∷ 66 ∷ 67 ∷ 68 ∷ [])) 4

-- a line in the place of `0AJ`: what it does there, and what the body is answered with then
pub record Exchange : Type 0 where
  pub line : List ℕ
  pub does_so : Done
  pub answered : Answer

unfoldable pub exchanges : List Exchange
exchanges =
    -- `0AJ` itself: two points, in DIF form, on 2; the body is accepted as 1 2 3 4
    record {
      line = 48 ∷ 65 ∷ 74 ∷ [];
      does_so = went (2147483649 ∷ 2147483650 ∷ []) 2 2147483650 (after (By false 1));
      answered = accept (2147483649 ∷ 2147483650 ∷ 2147483651 ∷ 2147483652 ∷ []);
    } ∷
    -- `0AK`, all three conditions met: two points, in DIF form, on 3; 10 at the B
    record { line = 48 ∷ 65 ∷ 75 ∷ []; does_so = went (2147483649 ∷ 2147483651 ∷ []) 2 2147483651 (after (By false 2)); answered = refuse 10 5 } ∷
    -- "adds the same number of points": `0AJJ` adds three, in DIF form, on 3; the next head is another point's, and 6 stands at it
    record {
      line = 48 ∷ 65 ∷ 74 ∷ 74 ∷ [];
      does_so = went (2147483649 ∷ 2147483650 ∷ 2147483651 ∷ []) 3 2147483651 (after (By false 1));
      answered = refuse 6 5;
    } ∷
    -- "also ends in DIF form": `0AC` adds two, in SQZ form, on 3; the next line is no check line, and 6 stands at its head
    record { line = 48 ∷ 65 ∷ 67 ∷ []; does_so = went (2147483649 ∷ 2147483651 ∷ []) 2 2147483651 (after Own); answered = refuse 6 4 } ∷
    -- "but ends on another ordinate": `0Cj` adds two, in DIF form, on 2 as before; the body is accepted as 3 2 3 4, and the damage is not caught
    record {
      line = 48 ∷ 67 ∷ 106 ∷ [];
      does_so = went (2147483651 ∷ 2147483650 ∷ []) 2 2147483650 (after (By true 1));
      answered = accept (2147483651 ∷ 2147483650 ∷ 2147483651 ∷ 2147483652 ∷ []);
    } ∷ []

abbrev pub All : List Exchange → Type 0
All [] = Unit {0}
All (x ∷ xs) = (first_line x.line ≡ x.does_so) × (answer x.line ≡ x.answered) × All xs

pub conditions_needed : All exchanges
unfolding exchanges lines_do does read_table read read_lines line_length long_line sooner frame_legal passes exact nearest kind digits judge tokens comment ending scaled pointed thousandths opening
    inside step stop again says push took checked finish
conditions_needed = (refl, refl, (refl, refl, (refl, refl, (refl, refl, (refl, refl, tt)))))
