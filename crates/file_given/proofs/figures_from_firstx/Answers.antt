-- `file_given::figures_from_firstx` meets its contract: FIRSTX, LASTX and FIRSTY, or that one is outside its rule.
use mathlib.Core.Path.{sym, ◌∙◌}
use Rattle.file_given.proofs.GivenSteps.{firstx_wrong, lastx_wrong, firsty_wrong, all_right}
use Rattle.file_given.proofs.figures_from_firstx.Goals as goal

pub returns-in_default : goal.returns-in_default
returns-in_default c =
    let a = c.args in
    firstx_wrong a.c a.points a.xfactor a.yfactor (sym c.decimal_of.ensures.0 ∙ c.in_default.is)

pub returns-in_default-decimal_of : goal.returns-in_default-decimal_of
returns-in_default-decimal_of c =
    let a = c.args in
    let one = sym c.decimal_of.ensures.0 ∙ c.in-Some.is in
    lastx_wrong a.c a.points a.xfactor a.yfactor one (sym c.decimal_of-2.ensures.0 ∙ c.in_default-decimal_of.is)

pub returns-in_default-decimal_of-2 : goal.returns-in_default-decimal_of-2
returns-in_default-decimal_of-2 c =
    let a = c.args in
    let fx = sym c.decimal_of.ensures.0 ∙ c.in-Some.is in
    let lx = sym c.decimal_of-2.ensures.0 ∙ c.in-Some-decimal_of.is in
    firsty_wrong a.c a.points a.xfactor a.yfactor fx lx (sym c.decimal_of-3.ensures.0 ∙ c.in_default-decimal_of-2.is)

pub returns : goal.returns
returns c =
    let a = c.args in
    let fx = sym c.decimal_of.ensures.0 ∙ c.in-Some.is in
    let lx = sym c.decimal_of-2.ensures.0 ∙ c.in-Some-decimal_of.is in
    let fy = sym c.decimal_of-3.ensures.0 ∙ c.in-Some-decimal_of-2.is in
    all_right a.c a.points a.xfactor a.yfactor fx lx fy
