-- `label::find_from_title` meets its contract: TITLE's record, or one after it.
use mathlib.Core.Path.{sym, ◌∙◌}
use Rattle.label.proofs.RecordTurns.{title_text, title_on}
use Rattle.label.proofs.find_from_title.Goals as goal

pub returns-then-is_word : goal.returns-then-is_word
returns-then-is_word c =
    title_text _ _ _ _ c.requires.0 c.requires.1 _ _
    (sym c.is_word.ensures ∙ c.if-is_word.true) c.next_mark-to.ensures

pub returns : goal.returns
returns c =
    title_on _ _ _ _ c.requires.0 c.requires.1 _ _
    (sym c.is_word.ensures ∙ c.if-is_word.false) c.find_record.ensures
