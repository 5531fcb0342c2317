-- `profile_text::text_of` meets its contract: the record of the file, or else of the page.
use Rattle.std.specs.Prelude.{Ok}
use mathlib.Core.Path.{sym, ◌∙◌, ap}
use Rattle.profile_text.proofs.TextTurns.{shown_file, shown_refused, shown_page, shown_none}
use Rattle.profile_text.proofs.text_of.Goals as goal

pub part_of-requires : goal.part_of-requires
part_of-requires c = rw (c.in-Ok-Some.is, c.in-Ok-Some.field-0-is) at c.find.ensures.1

pub part_of-requires-in-Some : goal.part_of-requires-in-Some
part_of-requires-in-Some c = let x = rw c.in-Some.is at c.find_on_page.ensures in (x.1.1, x.1.2)

pub returns-in-Ok-Some : goal.returns-in-Ok-Some
returns-in-Ok-Some c = c.part_of.ensures ∙ shown_file _ _ _ _ _ _ (sym c.find.ensures.0 ∙ (c.in-Ok-Some.is ∙ ap Ok c.in-Ok-Some.field-0-is))

pub returns-in-Err : goal.returns-in-Err
returns-in-Err c = shown_refused _ _ _ _ _ (sym c.find.ensures.0 ∙ c.in-Err.is)

pub returns-in-Some : goal.returns-in-Some
returns-in-Some c =
    let x = rw c.in-Some.is at c.find_on_page.ensures in
    c.part_of-in-Some.ensures ∙ shown_page _ _ _ _ (sym c.find.ensures.0 ∙ (c.in-Ok-None.is ∙ ap Ok c.in-Ok-None.field-0-is)) _ _ x.0

pub returns-in-None : goal.returns-in-None
returns-in-None c =
    let x = rw c.in-None.is at c.find_on_page.ensures in
    shown_none _ _ _ _ (sym c.find.ensures.0 ∙ (c.in-Ok-None.is ∙ ap Ok c.in-Ok-None.field-0-is)) x.0
