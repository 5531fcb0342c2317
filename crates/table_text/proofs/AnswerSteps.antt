-- From the tests of the writer to its outcomes, in each of the four forms (02, T-02). No place of the code is named here. Assumes nothing.
use mathlib.Core.Path.{◌≡◌, refl, ap, ◌∙◌}
use mathlib.Core.Bool.{true}
use mathlib.Core.List.{List, map}
use Prim.Native.Nat.{ℕ, ◌+◌, ◌*◌, ◌≤◌, ◌<◌}
use native.Mathlib.Omega.{arith}
use lib.Dec.{leb}
use lib.IntN.{ℤ}
use lib.ListN.{length, take, length-map}
use borrow.Author.Tests.{lt-ltb, le-ltb, le-leb}
use Rattle.frame.specs.declared.Frame.{Frame}
use Rattle.frame.specs.Legal.{framed, Sound}
use Rattle.frame.specs.FrameLaws.{framed_legal}
use Rattle.table_spec.specs.Frame.{ordinate_of}
use Rattle.table_spec.specs.Writing.{lines_of, written, write_table, laid}
use Rattle.table_write_law.proofs.Written.{Takes}
use Rattle.table_write_law.proofs.Lengths.{written_most}
use Rattle.table_text.specs.Pieces.{Put, head_of, ordinates}
use Rattle.table_text.specs.Answers.{refused, Answered, FramedAnswer}
use Rattle.table_spec.specs.declared.Style.{Style}
use Rattle.std.specs.Prelude.{Some, Result, Ok}
use Rattle.terms.specs.declared.Fault.{Fault}

-- ---- in a legal frame

-- the text
abbrev body : Style → Frame → List ℤ → List ℕ
body st fr ys = lines_of st (head_of fr) (map ordinate_of (take fr.points ys))

is_body : (st : Style) (fr : Frame) (ys : List ℤ) → written st fr.first fr.last fr.points (map ordinate_of (take fr.points ys)) ≡ body st fr ys
unfolding written head_of
is_body st fr ys = refl

module _ (st : Style) (fr : Frame) (ys : List ℤ) (o : List ℕ) {o' : List ℕ} {r : Result ℕ Fault} where
  module _ (h : fr.points ≤ length ys) where
    pub too_long : length o < length (body st fr ys) → r ≡ refused 15 → o' ≡ o → FramedAnswer st fr ys o o' r
    unfolding laid
    too_long k e f = rw (le-ltb (length ys) fr.points h, is_body st fr ys, lt-ltb (length o) (length (body st fr ys)) k) (record { answer = e; bytes = f })

    pub in_room : {m : ℕ} → length (body st fr ys) ≤ length o → Put o 0 o' m (body st fr ys) → r ≡ Ok m → FramedAnswer st fr ys o o' r
    unfolding laid
    in_room k p e =
        rw (le-ltb (length ys) fr.points h, is_body st fr ys, le-ltb (length o) (length (body st fr ys)) k)
        (record { answer = e ∙ ap Ok (p.next ∙ omega arith); bytes = p.stored })

-- so many bytes a point, and 44 more, are enough
pub always_room : (st : Style) (fr : Frame) (ys : List ℤ) {room : ℕ} → Sound fr → length ys ≡ fr.points
    → 15 * fr.points + 44 ≤ room → leb (length (lines_of st (head_of fr) (map ordinate_of ys))) room ≡ true
unfolding written head_of
always_room st fr ys {room} s e enough =
    let t : Takes fr.first fr.last fr.points = record { low_first = s.low_first; low_last = s.low_last; high_first = s.first; high_last = s.last; some = s.some; few = s.few } in
    let m = written_most st fr.first fr.last fr.points (ordinates ys) t (length-map ys ordinate_of ∙ e) in
    le-leb (length (lines_of st (head_of fr) (ordinates ys))) room (omega (arith, m, enough))

-- ---- the frame

module _ (st : Style) (f l : ℤ) (n : ℕ) {o o' : List ℕ} {r : Result ℕ Fault} (ys : List ℤ) where
  pub inside : (fr : Frame) → framed f l n ≡ Some fr → FramedAnswer st fr ys o o' r → Answered st f l n ys o o' r
  unfolding write_table
  inside fr e a = let z = framed_legal f l n e in rw z.legal (rw z.is at a)
