-- `text_values::measure` meets its contract: the count with the marks of a form is the length of its text.
use mathlib.Core.Path.{refl, sym, ap, ◌∙◌}
use mathlib.Core.List.{map}
use lib.ListN.{length, length-map}
use Rattle.table_spec.specs.Frame.{ordinate_of}
use Rattle.text_digits.specs.Counts.{counts}
use Rattle.text_values.proofs.FormSteps.{form_whole}
use Rattle.text_values.proofs.measure.Goals as goal

pub count-requires : goal.count-requires
unfolding counts
count-requires c =
    let p = c.requires in
    (refl, p.1, p.2)

pub returns : goal.returns
returns c =
    let a = c.args in
    let p = c.requires in
    let e = form_whole a.style p.0 a.fr p.1 (map ordinate_of a.ys.now) (length-map a.ys.now ordinate_of ∙ p.2) in
    rw c.marks_of-m.ensures at c.count.ensures ∙ ap length (sym e)
