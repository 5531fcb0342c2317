-- From the tests before writing to what is refused. No place of the code is named here. Assumes nothing.
use mathlib.Core.Path.{◌≡◌, refl}
use mathlib.Core.List.{List}
use Prim.Native.Nat.{ℕ, ◌<◌}
use lib.IntN.{ℤ}
use lib.ListN.{length}
use borrow.Author.Tests.{lt-ltb}
use Rattle.table_spec.specs.declared.Style.{Style}
use Rattle.table_spec.specs.Writing.{declined, write_table}
use Rattle.frame.specs.declared.Frame.{Frame}
use Rattle.frame.specs.Legal.{framed}
use Rattle.frame.specs.FrameLaws.{framed_outside, framed_legal}
use Rattle.std.specs.Prelude.{Some, None}

module _ (f l : ℤ) (n : ℕ) (ys : List ℤ) where
  pub outside_refused : framed f l n ≡ None → (st : Style) (space : ℕ) → write_table st f l n ys space ≡ declined 1
  unfolding write_table
  outside_refused e st space = rw (framed_outside f l n e) refl

  module _ {fr : Frame} (e : framed f l n ≡ Some fr) where
    pub few_refused : length ys < n → (st : Style) (space : ℕ) → write_table st f l n ys space ≡ declined 2
    unfolding write_table
    few_refused h st space = rw ((framed_legal f l n e).legal, lt-ltb (length ys) n h) refl
