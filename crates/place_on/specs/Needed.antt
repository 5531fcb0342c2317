-- Each condition of Decided is needed, by computation: a refused body, and a table with the same first bytes. Assumes nothing.
-- Frame F = 0, L = 3000, N = 4. Every table below says 1 2 3 4 but the first, which says 1 2 3 0.
use Rattle.std.specs.Prelude.{◌≡◌, refl, List, [], ◌∷◌, ◌++◌, ℕ, pos}
use Rattle.alphabet_spec.specs.Digits.{digits}
use Rattle.alphabet_spec.specs.Bytes.{kind}
use Rattle.table_spec.specs.Frame.{frame_legal, passes, exact, nearest}
use Rattle.table_spec.specs.Reading.{Answer, refuse, accept, read_table, read, judge, tokens, comment, ending, scaled, pointed, thousandths, opening, inside, step, stop}
use Rattle.table_spec.specs.Reading.{again, says, push, took, checked, finish, read_lines, line_length, long_line, sooner}
use Rattle.table_law.specs.Spelling.{same}

-- what a body is answered with
abbrev pub answer : List ℕ → Answer
answer s = read_table (pos 0) (pos 3000) 4 s 4

-- the bytes x and the byte y; a rest with which the body is refused, and so; and a rest with which it is a table
pub record Try : Type 0 where
  pub x : List ℕ
  pub y : ℕ
  pub refused_with : List ℕ
  pub refusal : Answer
  pub accepted_with : List ℕ
  pub last : ℕ

unfoldable pub tries : List Try
tries =
    -- the place is one of x: after `0ABC` and `@` the token at 4 may go on with 5, which makes it 5 there, or end
    record { x = 48 ∷ 65 ∷ 66 ∷ 67 ∷ []; y = 64; refused_with = 53 ∷ []; refusal = refuse 5 4; accepted_with = []; last = 2147483648 } ∷
    -- y is no digit: after `0` and `0` the head may have eight digits, 4 at 0, or end: `00ABCD`
    record {
      x = 48 ∷ [];
      y = 48;
      refused_with = 48 ∷ 48 ∷ 48 ∷ 48 ∷ 48 ∷ 48 ∷ 65 ∷ [];
      refusal = refuse 4 0;
      accepted_with = 65 ∷ 66 ∷ 67 ∷ 68 ∷ [];
      last = 2147483652;
    } ∷
    -- and no point: after `0` and `.` it may have four digits behind the point, 4 at 0, or none: `0.ABCD`
    record {
      x = 48 ∷ [];
      y = 46;
      refused_with = 48 ∷ 48 ∷ 48 ∷ 48 ∷ 65 ∷ [];
      refusal = refuse 4 0;
      accepted_with = 65 ∷ 66 ∷ 67 ∷ 68 ∷ [];
      last = 2147483652;
    } ∷
    -- 7 needs the line's LF: after `0` and a space the line may end, 7 at 0, or a value may follow: `0 ABCD`
    record { x = 48 ∷ []; y = 32; refused_with = 10 ∷ []; refusal = refuse 7 0; accepted_with = 65 ∷ 66 ∷ 67 ∷ 68 ∷ []; last = 2147483652 } ∷
    -- 16 needs one byte more than 81: after 80 spaces and CR the line may go on, 16 at 0, or end with LF, and `0ABCD` follows
    record { x = same 80 32; y = 13; refused_with = 65 ∷ []; refusal = refuse 16 0; accepted_with = 10 ∷ 48 ∷ 65 ∷ 66 ∷ 67 ∷ 68 ∷ []; last = 2147483652 } ∷ []

abbrev pub All : List Try → Type 0
All [] = Unit {0}
All (a ∷ more) =
    (answer (a.x ++ a.y ∷ a.refused_with) ≡ a.refusal)
    × (answer (a.x ++ a.y ∷ a.accepted_with) ≡ accept (2147483649 ∷ 2147483650 ∷ 2147483651 ∷ a.last ∷ []))
    × All more

pub conditions_needed : All tries
unfolding tries read_table read read_lines line_length long_line sooner frame_legal passes exact nearest kind digits judge tokens comment ending scaled pointed thousandths opening inside step
    stop again says push took checked finish
conditions_needed = (refl, refl, (refl, refl, (refl, refl, (refl, refl, (refl, refl, tt)))))
