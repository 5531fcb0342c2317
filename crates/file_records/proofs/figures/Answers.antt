-- `file_records::figures` meets its contract: XFACTOR and YFACTOR, and then the rest, or where the first that is wrong stands.
-- the start of the code, from where the first number is read, and that place from where it is right
use mathlib.Core.Path.{sym, ◌∙◌}
use Rattle.file_records.proofs.FigureSteps.{xfactor_wrong, yfactor_wrong, factors_right}
use Rattle.file_records.proofs.figures.Goals as goal

pub returns-in_default : goal.returns-in_default
returns-in_default c =
    let a = c.args in
    (rw c.mark_in.ensures (xfactor_wrong a.file.now a.x (sym c.factor_in.ensures.0 ∙ c.in_default.is)), tt)

pub returns-in_default-factor_in : goal.returns-in_default-factor_in
returns-in_default-factor_in c =
    let a = c.args in
    let one = sym c.factor_in.ensures.0 ∙ c.in-Some.is in
    (rw c.mark_in-in_default-factor_in.ensures (yfactor_wrong a.file.now a.x one (sym c.factor_in-2.ensures.0 ∙ c.in_default-factor_in.is)), tt)

pub figures_from_firstx-requires : goal.figures_from_firstx-requires
figures_from_firstx-requires c =
    let one = rw c.in-Some.is at c.factor_in.ensures.1 in
    let two = rw c.in-Some-factor_in.is at c.factor_in-2.ensures.1 in
    record { within = c.requires; xfactor = one; yfactor = two }

pub returns : goal.returns
returns c =
    let a = c.args in
    let one = sym c.factor_in.ensures.0 ∙ c.in-Some.is in
    let two = sym c.factor_in-2.ensures.0 ∙ c.in-Some-factor_in.is in
    (c.figures_from_firstx.ensures.0 ∙ factors_right a.file.now a.x one two, c.figures_from_firstx.ensures.1)
