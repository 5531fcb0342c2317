-- `file_records::figures_from_firstx` meets its contract: FIRSTX and LASTX, then the rest, or where the first that is wrong stands.
-- the start of the code, from where the first number is read, and that place from where it is right
use mathlib.Core.Path.{sym, ◌∙◌}
use Rattle.file_records.proofs.FigureSteps.{firstx_wrong, lastx_wrong, abscissas_right}
use Rattle.file_records.proofs.figures_from_firstx.Goals as goal

pub returns-in_default : goal.returns-in_default
returns-in_default c =
    let a = c.args in
    (rw c.mark_in.ensures (firstx_wrong a.file.now a.x a.xfactor a.yfactor (sym c.decimal_in.ensures.0 ∙ c.in_default.is)), tt)

pub returns-in_default-decimal_in : goal.returns-in_default-decimal_in
returns-in_default-decimal_in c =
    let a = c.args in
    let one = sym c.decimal_in.ensures.0 ∙ c.in-Some.is in
    (rw c.mark_in-in_default-decimal_in.ensures (lastx_wrong a.file.now a.x a.xfactor a.yfactor one (sym c.decimal_in-2.ensures.0 ∙ c.in_default-decimal_in.is)), tt)

pub figures_from_npoints-requires : goal.figures_from_npoints-requires
figures_from_npoints-requires c =
    let one = rw c.in-Some.is at c.decimal_in.ensures.1 in
    let two = rw c.in-Some-decimal_in.is at c.decimal_in-2.ensures.1 in
    (c.requires, one, two)

pub returns : goal.returns
returns c =
    let a = c.args in
    let one = sym c.decimal_in.ensures.0 ∙ c.in-Some.is in
    let two = sym c.decimal_in-2.ensures.0 ∙ c.in-Some-decimal_in.is in
    (c.figures_from_npoints.ensures.0 ∙ abscissas_right a.file.now a.x a.xfactor a.yfactor one two, c.figures_from_npoints.ensures.1)
