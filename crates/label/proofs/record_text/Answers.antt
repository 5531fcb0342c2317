-- `label::record_text` meets its contract: by the places that `find` answers.
use mathlib.Core.Path.{◌∙◌}
use Rattle.label.proofs.FileTurns.{text_part, text_absent, text_refused}
use Rattle.label.proofs.record_text.Goals as goal

pub part_of-requires : goal.part_of-requires
part_of-requires c = (rw (c.in-Ok-Some.is, c.in-Ok-Some.field-0-is) at c.find.ensures).1

pub returns-in-Ok-Some : goal.returns-in-Ok-Some
returns-in-Ok-Some c = c.part_of.ensures ∙ text_part _ _ _ _ (rw (c.in-Ok-Some.is, c.in-Ok-Some.field-0-is) at c.find.ensures)

pub returns-in-Ok-None : goal.returns-in-Ok-None
returns-in-Ok-None c = text_absent _ _ (rw (c.in-Ok-None.is, c.in-Ok-None.field-0-is) at c.find.ensures)

pub returns-in-Err : goal.returns-in-Err
returns-in-Err c = text_refused _ _ _ (rw c.in-Err.is at c.find.ensures)
