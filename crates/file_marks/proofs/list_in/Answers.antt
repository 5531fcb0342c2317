-- `file_marks::list_in` meets its contract: the text of a record is as long as its places say.
use mathlib.Core.Path.{subst}
use Prim.Native.Nat.{ℕ}
use Rattle.file_marks.specs.Spans.{ListedWithin}
use Rattle.file_marks.proofs.TextLaws.{text_length}
use Rattle.file_marks.proofs.list_in.Goals as goal

pub returns : goal.returns
returns c =
    let a = c.args in
    let long = text_length a.file.now a.t c.requires in
    (c.list_line.ensures.0, subst (λ (k : ℕ). ListedWithin k c.list_line.result) long c.list_line.ensures.1)
