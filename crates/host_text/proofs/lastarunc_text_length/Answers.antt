-- `host_text::lastarunc_text_length` meets its contract: what `text_length` says of each number's form is told, and -1 for a number that is no form's.
use mathlib.Core.Path.{sym, ap, ◌∙◌}
use mir.Facts.{to_z-of_z}
use Rattle.table_text.specs.Answers.{told}
use Rattle.host_text.proofs.Tellings.{no_form_measured, text_measured}
use Rattle.host_text.proofs.lastarunc_text_length.Goals as goal

pub returns-in-None : goal.returns-in-None
returns-in-None c =
    no_form_measured _ ((rw c.in-None.is at c.form_of.ensures) _ _ _ _ _) c.tell_no_form.ensures

pub returns-in-Some : goal.returns-in-Some
returns-in-Some c =
    let form = (rw c.in-Some.is at c.form_of.ensures) c.args.first c.args.last c.args.points c.args.ordinates.now _ in
    text_measured _ (rw (to_z-of_z c.ranges.first, to_z-of_z c.ranges.last) at c.text_length-written.ensures ∙ sym (ap told form)) c.tell_text.ensures
