-- From the tests before writing to what is told, and to the length of what is written (02, T-10). No place of the code is named here. Assumes nothing.
use mathlib.Core.Path.{◌≡◌, refl, sym, ap, ◌∙◌}
use mathlib.Core.List.{List}
use Prim.Native.Nat.{ℕ, ◌≤◌}
use native.Mathlib.Omega.{arith}
use lib.IntN.{ℤ}
use lib.ListN.{length, take}
use lib.Seq.{length-take-le}
use Rattle.table_spec.specs.declared.Style.{Style}
use Rattle.table_spec.specs.Writing.{Outcome, declined, lines_of, written, laid}
use Rattle.frame.specs.declared.Frame.{Frame}
use Rattle.frame.specs.Legal.{framed}
use Rattle.frame.specs.FrameLaws.{framed_legal}
use Rattle.table_write_law.proofs.ReadBack.{always_written}
use Rattle.table_text.specs.Pieces.{head_of, ordinates}
use Rattle.table_text.specs.Answers.{told, refused, Tells}
use Rattle.table_write.specs.Room.{enough, Measured}
use Rattle.std.specs.Prelude.{Some, Result, Ok}
use Rattle.terms.specs.declared.Fault.{Fault}

-- what is refused is told, and nothing is altered
pub refused_tells : {x : Outcome} {o : List ℕ} {r : Result ℕ Fault} {k : ℕ} → x ≡ declined k → r ≡ refused k → Tells x o o r
unfolding laid
refused_tells {x} {o} {r} {k} e h = record { answer = h ∙ sym (ap told e); bytes = rw e refl }

module _ (f l : ℤ) (n : ℕ) (ys : List ℤ) {fr : Frame} (e : framed f l n ≡ Some fr) (h : n ≤ length ys) where
  -- an ordinate for each point
  pub enough_ordinates : fr.points ≤ length ys
  enough_ordinates = rw (framed_legal f l n e).is h

  pub as_many : length (take fr.points ys) ≡ fr.points
  as_many = length-take-le fr.points ys enough_ordinates

  -- the length of the lines is what writing into enough room answers
  pub measured : (st : Style) {m : ℕ} → m ≡ length (lines_of st (head_of fr) (ordinates (take fr.points ys))) → Measured st f l n ys (Ok m)
  unfolding written head_of
  measured st {m} x =
      let z = framed_legal f l n e in
      ap Ok (rw z.is at x) ∙ sym (ap told (always_written st f l n ys (enough n) z.legal h (omega arith)))
