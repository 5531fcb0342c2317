-- `text_values::lay` meets its contract: the pass with the marks of a form makes its text.
use mathlib.Core.Path.{refl, ◌∙◌}
use mathlib.Core.List.{map}
use lib.ListN.{length-map}
use Rattle.table_spec.specs.Frame.{ordinate_of}
use Rattle.table_text.specs.Pieces.{put_as}
use Rattle.text_digits.specs.Pairs.{pairs}
use Rattle.text_digits.specs.Counts.{counts}
use Rattle.text_values.proofs.FormSteps.{marks_based, form_whole}
use Rattle.text_values.proofs.lay.Goals as goal

pub pass-requires : goal.pass-requires
unfolding pairs counts
pass-requires c =
    let a = c.args in
    let p = c.requires in
    let e = form_whole a.style p.0 a.fr p.1 (map ordinate_of a.ys.now) (length-map a.ys.now ordinate_of ∙ p.2) in
    rw (c.marks_of-m.ensures, ← e) (record { pairs_are = refl; counts_are = refl }, marks_based a.style, p.1, p.2, p.3)

pub returns : goal.returns
returns c =
    let a = c.args in
    let p = c.requires in
    let e = form_whole a.style p.0 a.fr p.1 (map ordinate_of a.ys.now) (length-map a.ys.now ordinate_of ∙ p.2) in
    put_as e (rw c.marks_of-m.ensures at c.pass.ensures)
