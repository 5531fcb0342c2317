-- `file_marks::mark_in` meets its contract: the record's start, and the place within its text.
use mathlib.Core.Path.{refl}
use Rattle.file_spec.specs.Texts.{mark_of}
use Rattle.file_marks.proofs.mark_in.Goals as goal

pub returns : goal.returns
unfolding mark_of
returns c = rw c.first_mark.ensures.0 refl
