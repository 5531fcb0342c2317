-- `file_records::figures_from_npoints` meets its contract: NPOINTS and FIRSTY, or where the first that is wrong stands.
-- the start of the code, from where the first number is read, and that place from where it is right
use mathlib.Core.Path.{sym, ◌∙◌}
use Rattle.file_records.proofs.FigureSteps.{npoints_wrong, firsty_wrong, all_right}
use Rattle.file_records.proofs.figures_from_npoints.Goals as goal

pub returns-in_default : goal.returns-in_default
returns-in_default c =
    let a = c.args in
    (rw c.mark_in.ensures (npoints_wrong a.file.now a.x a.xfactor a.yfactor a.firstx a.lastx (sym c.count_in.ensures.0 ∙ c.in_default.is)), tt)

pub returns-in_default-decimal_in : goal.returns-in_default-decimal_in
returns-in_default-decimal_in c =
    let a = c.args in
    let one = sym c.count_in.ensures.0 ∙ c.in-Some.is in
    (rw c.mark_in-in_default-decimal_in.ensures (firsty_wrong a.file.now a.x a.xfactor a.yfactor a.firstx a.lastx one (sym c.decimal_in.ensures.0 ∙ c.in_default-decimal_in.is)), tt)

pub returns : goal.returns
returns c =
    let a = c.args in
    let one = sym c.count_in.ensures.0 ∙ c.in-Some.is in
    let two = sym c.decimal_in.ensures.0 ∙ c.in-Some-decimal_in.is in
    let many = rw c.in-Some.is at c.count_in.ensures.1 in
    let small = rw c.in-Some-decimal_in.is at c.decimal_in.ensures.1 in
    let p = c.requires in
    let all = all_right a.file.now a.x a.xfactor a.yfactor a.firstx a.lastx one two in
    (all, record { xfactor = p.0.xfactor; yfactor = p.0.yfactor; firstx = p.1; lastx = p.2; npoints = many; firsty = small })
