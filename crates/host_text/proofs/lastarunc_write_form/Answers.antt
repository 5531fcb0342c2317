-- `host_text::lastarunc_write_form` meets its contract: each number's form, and -1 for a number that is no form's.
use mir.Facts.{to_z-of_z}
use Rattle.host_text.proofs.Tellings.{no_form_told, outcome_as}
use Rattle.host_text.proofs.lastarunc_write_form.Goals as goal

pub returns-in-None : goal.returns-in-None
returns-in-None c =
    no_form_told _ ((rw c.in-None.is at c.form_of.ensures) _ _ _ _ _) c.tell_no_form.ensures

pub returns-in-Some : goal.returns-in-Some
returns-in-Some c =
    outcome_as ((rw c.in-Some.is at c.form_of.ensures) c.args.first c.args.last c.args.points c.args.ordinates.now _)
    (rw (to_z-of_z c.ranges.first, to_z-of_z c.ranges.last) at c.write_style.ensures)
