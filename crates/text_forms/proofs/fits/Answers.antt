-- `text_forms::fits` meets its contract: 15 bytes a point and 44 more are enough, and with fewer the text's length decides.
use mathlib.Core.Path.{sym, ◌∙◌}
use borrow.Author.Tests.{le-leb}
use Rattle.table_text.proofs.AnswerSteps.{always_room}
use Rattle.text_forms.proofs.fits.Goals as goal

pub returns-then-enough-room : goal.returns-then-enough-room
returns-then-enough-room c =
    let a = c.args in
    let p = c.requires in
    le-leb _ a.room c.if-enough-room.true ∙ sym (always_room a.style a.fr a.ys.now p.0 p.1 c.if-enough-room.true)
